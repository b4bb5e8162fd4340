-- What is read of a line is what it was written from, and the other way round.
use Rattle.std.proofs.Common.{◌≡◌, ℕ, ◌≤◌, Bool, true, false, cond, eqb, leb, List, [], ◌∷◌, ◌++◌, length, ℤ, Some, Ok, Err, Option, Result, sym, refl, ap, ◌∙◌, subst, append_assoc, arith, length-append, eqb-true, le-leb, leb-true}
use Rattle.std.proofs.lemmas.List.{nil_from_length}
use Rattle.std.specs.Fmt.{signed_decimal}
use Rattle.text.specs.Cuts.{cut_at, Free}
use Rattle.text.specs.Numbers.{Short}
use Rattle.text.proofs.CutLaws.{some_same, cut-says, cut-reads, free-joined}
use Rattle.text.proofs.Spellings.{before-some, if-then, number-free}
use Rattle.lines.specs.Lines.{Line, rate, holiday, opening, limits, margin, deposit, settlement, callback, letter, fields, ended, Word, Good, Form, text_number, text_text_number, text_text_number_number, opening_of, of_text_number, of_text_text_number, of_text_text_number_number, fielded, lettered, body_of, parsed}
use Rattle.request.specs.declared.order.Order.{Order}
use Rattle.lines.specs.declared.fault.SheetFault.{SheetFault}
use Rattle.lines.specs.Entries.{meant, entry_of, Exactly}
use Rattle.lines.proofs.Shapes.{tabs, text_number-reads, text_text_number-reads, text_text_number_number-reads, opening-reads, text_number-says, text_text_number-says, text_text_number_number-says, opening-says}

-- what is written before the line feed
abbrev bodied : ℕ → List (List ℕ) → List ℕ
bodied l [] = l ∷ []
bodied l (f ∷ fs) = l ∷ 9 ∷ tabs f fs

ended_is : (f : List ℕ) (fs : List (List ℕ)) → ended (f ∷ fs) ≡ 9 ∷ (tabs f fs ++ (10 ∷ []))
ended_is f [] = refl
ended_is f (g ∷ gs) = ap (λ l. 9 ∷ (f ++ l)) (ended_is g gs) ∙ ap (λ l. 9 ∷ l) (sym (append_assoc f (9 ∷ tabs g gs) (10 ∷ [])))

bodied-is : (l : ℕ) (fs : List (List ℕ)) → l ∷ ended fs ≡ bodied l fs ++ (10 ∷ [])
bodied-is l [] = refl
bodied-is l (f ∷ fs) = ap (λ t. l ∷ t) (ended_is f fs)

-- WRITTEN, THEN READ

parsed-body : (b : List ℕ) (x : Line) → Free 10 b → length b ≤ 128 → lettered b ≡ Some x → parsed (b ++ (10 ∷ [])) ≡ Some x
unfolding parsed
parsed-body b x free short e = rw (cut-reads 10 b [] free, le-leb (length b) 128 short) e

abbrev AllFree : List (List ℕ) → Type 0
AllFree [] = Unit {0}
AllFree (f ∷ fs) = Free 10 f × AllFree fs

tabs-free : (f : List ℕ) (fs : List (List ℕ)) → Free 10 f → AllFree fs → Free 10 (tabs f fs)
tabs-free f [] a b = a
tabs-free f (g ∷ gs) a b = free-joined 10 f (9 ∷ tabs g gs) a (refl, tabs-free g gs b.0 b.1)

bodied-free : (l : ℕ) (fs : List (List ℕ)) → eqb l 10 ≡ false → AllFree fs → Free 10 (bodied l fs)
bodied-free l [] e h = (e, tt)
bodied-free l (f ∷ fs) e h = (e, (refl, tabs-free f fs h.0 h.1))

num : (z : ℤ) → Short z → Free 10 (signed_decimal z)
num z s = number-free 10 z s (omega arith)

fields_free : (x : Line) → Good x → AllFree (fields x)
fields_free (rate k x) g = (g.0.1, (num x g.1, tt))
fields_free (holiday k x) g = (g.0.1, (num x g.1, tt))
fields_free (opening c n b l s p) g = (g.0.1, (num n g.1, (g.2.1, (num l g.3, (num s g.4, (g.5.1, tt))))))
fields_free (limits c k x y) g = (g.0.1, (g.1.1, (num x g.2, (num y g.3, tt))))
fields_free (margin c k x y) g = (g.0.1, (g.1.1, (num x g.2, (num y g.3, tt))))
fields_free (deposit c k x) g = (g.0.1, (g.1.1, (num x g.2, tt)))
fields_free (settlement c k x) g = (g.0.1, (g.1.1, (num x g.2, tt)))
fields_free (callback c k x) g = (g.0.1, (g.1.1, (num x g.2, tt)))

letter-free : (x : Line) → eqb (letter x) 10 ≡ false
letter-free (rate k x) = refl
letter-free (holiday k x) = refl
letter-free (opening c n b l s p) = refl
letter-free (limits c k x y) = refl
letter-free (margin c k x y) = refl
letter-free (deposit c k x) = refl
letter-free (settlement c k x) = refl
letter-free (callback c k x) = refl

good-reads : (x : Line) → Good x → lettered (bodied (letter x) (fields x)) ≡ Some x
good-reads (rate k x) g = rw (text_number-reads k x g.0.0 g.1)
good-reads (holiday k x) g = rw (text_number-reads k x g.0.0 g.1)
good-reads (opening c n b l s p) g = opening-reads c b p n l s g.0.0 g.2.0 g.5.0 g.1 g.3 g.4
good-reads (limits c k x y) g = rw (text_text_number_number-reads c k x y g.0.0 g.1.0 g.2 g.3)
good-reads (margin c k x y) g = rw (text_text_number_number-reads c k x y g.0.0 g.1.0 g.2 g.3)
good-reads (deposit c k x) g = rw (text_text_number-reads c k x g.0.0 g.1.0 g.2)
good-reads (settlement c k x) g = rw (text_text_number-reads c k x g.0.0 g.1.0 g.2)
good-reads (callback c k x) g = rw (text_text_number-reads c k x g.0.0 g.1.0 g.2)

pub form-reads : (bytes : List ℕ) (x : Line) → Form bytes x → parsed bytes ≡ Some x
form-reads bytes x f =
    let body = bodied (letter x) (fields x) in
    let same : body ++ (10 ∷ []) ≡ bytes = sym (bodied-is (letter x) (fields x)) ∙ f.text in
    let short : length body ≤ 128 = omega (arith, ap length same, f.long, length-append body (10 ∷ [])) in
    subst (λ b. parsed b ≡ Some x) same (parsed-body body x (bodied-free (letter x) (fields x) (letter-free x) (fields_free x f.good)) short (good-reads x f.good))

-- READ, THEN WRITTEN

record Body (b : List ℕ) (x : Line) : Type 0 where
  good : Good x
  text : bodied (letter x) (fields x) ≡ b

abbrev Said : ℕ → List ℕ → Line → Type 0
Said l t x = Body (l ∷ 9 ∷ t) x

-- a line of a text and a number, of any kind
text_number-line : (make : List ℕ → ℤ → Line) (l : ℕ) (t : List ℕ) (x : Line) → ((k : List ℕ) (z : ℤ) → Word k × Short z → bodied l (k ∷ signed_decimal z ∷ []) ≡ l ∷ 9 ∷ t → Said l t (make k z)) → Free 10 t → of_text_number make t ≡ Some x → Said l t x
text_number-line make l t x said free e =
    let p = before-some (text_number t) _ x e in
    let s = text_number-says t p.0 free p.1 in
    subst (Said l t) (some_same p.2) (said _ _ (s.0, s.1) (ap (λ u. l ∷ 9 ∷ u) (sym s.2)))

-- of two texts and a number
text_text_number-line : (make : List ℕ → List ℕ → ℤ → Line) (l : ℕ) (t : List ℕ) (x : Line) → ((c k : List ℕ) (z : ℤ) → Word c × Word k × Short z → bodied l (c ∷ k ∷ signed_decimal z ∷ []) ≡ l ∷ 9 ∷ t → Said l t (make c k z)) → Free 10 t → of_text_text_number make t ≡ Some x → Said l t x
text_text_number-line make l t x said free e =
    let p = before-some (text_text_number t) _ x e in
    let s = text_text_number-says t p.0 free p.1 in
    subst (Said l t) (some_same p.2) (said _ _ _ (s.0, s.1, s.2) (ap (λ u. l ∷ 9 ∷ u) (sym s.3)))

-- of two texts and two numbers
text_text_number_number-line : (make : List ℕ → List ℕ → ℤ → ℤ → Line) (l : ℕ) (t : List ℕ) (x : Line) → ((c k : List ℕ) (y z : ℤ) → Word c × Word k × Short y × Short z → bodied l (c ∷ k ∷ signed_decimal y ∷ signed_decimal z ∷ []) ≡ l ∷ 9 ∷ t → Said l t (make c k y z)) → Free 10 t → of_text_text_number_number make t ≡ Some x → Said l t x
text_text_number_number-line make l t x said free e =
    let p = before-some (text_text_number_number t) _ x e in
    let s = text_text_number_number-says t p.0 free p.1 in
    subst (Said l t) (some_same p.2) (said _ _ _ _ (s.0, s.1, s.2, s.3) (ap (λ u. l ∷ 9 ∷ u) (sym s.4)))

opening-line : (t : List ℕ) (x : Line) → Free 10 t → opening_of t ≡ Some x → Said 65 t x
opening-line t x free e =
    let s = opening-says t x free e in
    subst (Said 65 t) s.is (record { good = s.good; text = ap (λ u. 65 ∷ 9 ∷ u) (sym s.text) })

-- one test on the letter after another
at-letter : (l m : ℕ) (t : List ℕ) (x : Line) (a b : Option Line) → cond (eqb l m) a b ≡ Some x → (a ≡ Some x → Said m t x) → (b ≡ Some x → Said l t x) → Said l t x
at-letter l m t x a b e here there = go (eqb l m) refl e
  where
    go : (c : Bool) → eqb l m ≡ c → cond c a b ≡ Some x → Said l t x
    go true is e = subst (λ k. Said k t x) (sym (eqb-true l m is)) (here e)
    go false is e = there e

fielded-says : (l : ℕ) (t : List ℕ) (x : Line) → Free 10 t → fielded l t ≡ Some x → Said l t x
fielded-says l t x free e =
    at-letter l 82 t x _ _ e (text_number-line rate 82 t x (λ k z g e. record { good = g; text = e }) free)
    (λ e. at-letter l 72 t x _ _ e (text_number-line holiday 72 t x (λ k z g e. record { good = g; text = e }) free)
    (λ e. at-letter l 65 t x _ _ e (opening-line t x free)
    (λ e. at-letter l 76 t x _ _ e (text_text_number_number-line limits 76 t x (λ c k y z g e. record { good = g; text = e }) free)
    (λ e. at-letter l 77 t x _ _ e (text_text_number_number-line margin 77 t x (λ c k y z g e. record { good = g; text = e }) free)
    (λ e. at-letter l 68 t x _ _ e (text_text_number-line deposit 68 t x (λ c k z g e. record { good = g; text = e }) free)
    (λ e. at-letter l 83 t x _ _ e (text_text_number-line settlement 83 t x (λ c k z g e. record { good = g; text = e }) free)
    (λ e. at-letter l 66 t x _ _ e (text_text_number-line callback 66 t x (λ c k z g e. record { good = g; text = e }) free)
    (λ e. let z : ◌≡◌ {A = ℕ} 0 1 = cc in absurd (omega arith)))))))))

lettered-says : (b : List ℕ) (x : Line) → Free 10 b → lettered b ≡ Some x → Body b x
lettered-says [] x free e = let z : ◌≡◌ {A = ℕ} 0 1 = cc in absurd (omega arith)
lettered-says (l ∷ []) x free e = let z : ◌≡◌ {A = ℕ} 0 1 = cc in absurd (omega arith)
lettered-says (l ∷ t ∷ fs) x free e =
    let p = if-then (eqb t 9) (fielded l fs) x e in
    let s = fielded-says l fs x free.1.1 p.1 in
    record { good = s.good; text = s.text ∙ ap (λ m. l ∷ m ∷ fs) (sym (eqb-true t 9 p.0)) }

pub form-says : (bytes : List ℕ) (x : Line) → parsed bytes ≡ Some x → Form bytes x
unfolding parsed
form-says bytes x e =
    let p = before-some (body_of bytes) lettered x e in
    let q = before-some (cut_at 10 bytes) _ p.0 p.1 in
    let a = cut-says 10 bytes q.0 q.1 in
    let b = if-then (eqb (length q.0.1) 0) _ p.0 q.2 in
    let d = if-then (leb (length q.0.0) 128) (Some q.0.0) p.0 b.1 in
    let same : q.0.0 ≡ p.0 = some_same d.1 in
    let end : q.0.1 ≡ [] = nil_from_length _ (eqb-true _ 0 b.0) in
    let whole : bytes ≡ p.0 ++ (10 ∷ []) = a.0 ∙ (λ i. same i ++ (10 ∷ end i)) in
    let s = lettered-says p.0 x (subst (Free 10) same a.1) p.2 in
    let short : length p.0 ≤ 128 = subst (λ b. length b ≤ 128) same (leb-true _ 128 d.0) in
    record {
      good = s.good;
      long = omega (arith, ap length whole, length-append p.0 (10 ∷ []), short);
      text = bodied-is (letter x) (fields x) ∙ ap (λ b. b ++ (10 ∷ [])) s.text ∙ sym whole;
    }

pub exactly : (bytes : List ℕ) (r : Result Order SheetFault) → entry_of r ≡ parsed bytes → Exactly bytes r
exactly bytes (Ok e) is = form-says bytes (meant e) (sym is)
exactly bytes (Err f) is = λ x h. let p = form-reads bytes x h in let z : ◌≡◌ {A = ℕ} 0 1 = cc in omega arith
