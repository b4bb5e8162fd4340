-- What each shape of fields is read from, and written as.
use Rattle.std.proofs.Common.{◌≡◌, ℕ, List, [], ◌∷◌, ◌++◌, ℤ, Some, None, Option, sym, refl, ap, ◌∙◌, subst, arith}
use Rattle.std.specs.Fmt.{signed_decimal}
use Rattle.text.specs.Cuts.{cut_at, Free}
use Rattle.text.specs.Numbers.{number_of, Short}
use Rattle.text.proofs.CutLaws.{some_same, cut-says, cut-reads, cut-free, free-cut, free-parts}
use Rattle.text.proofs.Spellings.{before-some, number-says, number-reads, number-free}
use Rattle.lines.specs.Lines.{Line, opening, Word, last_by, last, text_number, text_text_number, number_number, text_text_number_number, number_text, number_number_text, opening_of}

-- fields with a tab between them
abbrev pub tabs : List ℕ → List (List ℕ) → List ℕ
tabs f [] = f
tabs f (g ∷ gs) = f ++ (9 ∷ tabs g gs)

number-plain : (z : ℤ) → Short z → Free 9 (signed_decimal z)
number-plain z h = number-free 9 z h (omega arith)

-- WRITTEN, THEN READ

last-reads : (k : List ℕ) → Free 9 k → last k ≡ Some k
last-reads k free = rw (cut-free 9 k free)

pub text_number-reads : (k : List ℕ) (x : ℤ) → Free 9 k → Short x → text_number (tabs k (signed_decimal x ∷ [])) ≡ Some (k, x)
text_number-reads k x f s = rw (cut-reads 9 k (signed_decimal x) f, number-reads x s)

pub text_text_number-reads : (c k : List ℕ) (x : ℤ) → Free 9 c → Free 9 k → Short x → text_text_number (tabs c (k ∷ signed_decimal x ∷ [])) ≡ Some (c, k, x)
text_text_number-reads c k x f g s = rw (cut-reads 9 c (tabs k (signed_decimal x ∷ [])) f, text_number-reads k x g s)

number_number-reads : (x y : ℤ) → Short x → Short y → number_number (tabs (signed_decimal x) (signed_decimal y ∷ [])) ≡ Some (x, y)
number_number-reads x y s t = rw (cut-reads 9 (signed_decimal x) (signed_decimal y) (number-plain x s), number-reads x s, number-reads y t)

pub text_text_number_number-reads : (c k : List ℕ) (x y : ℤ) → Free 9 c → Free 9 k → Short x → Short y → text_text_number_number (tabs c (k ∷ signed_decimal x ∷ signed_decimal y ∷ [])) ≡ Some (c, k, x, y)
text_text_number_number-reads c k x y f g s t = rw (cut-reads 9 c (tabs k (signed_decimal x ∷ signed_decimal y ∷ [])) f, cut-reads 9 k (tabs (signed_decimal x) (signed_decimal y ∷ [])) g, number_number-reads x y s t)

pub number_text-reads : (x : ℤ) (k : List ℕ) → Short x → Free 9 k → number_text (tabs (signed_decimal x) (k ∷ [])) ≡ Some (x, k)
number_text-reads x k s f = rw (cut-reads 9 (signed_decimal x) k (number-plain x s), number-reads x s, last-reads k f)

number_number_text-reads : (x y : ℤ) (k : List ℕ) → Short x → Short y → Free 9 k → number_number_text (tabs (signed_decimal x) (signed_decimal y ∷ k ∷ [])) ≡ Some (x, y, k)
number_number_text-reads x y k s t f = rw (cut-reads 9 (signed_decimal x) (tabs (signed_decimal y) (k ∷ [])) (number-plain x s), number-reads x s, number_text-reads y k t f)

pub opening-reads : (c b p : List ℕ) (n l s : ℤ) → Free 9 c → Free 9 b → Free 9 p → Short n → Short l → Short s → opening_of (tabs c (signed_decimal n ∷ b ∷ signed_decimal l ∷ signed_decimal s ∷ p ∷ [])) ≡ Some (opening c n b l s p)
opening-reads c b p n l s fc fb fp sn sl ss =
    rw (
      cut-reads 9 c (tabs (signed_decimal n) (b ∷ signed_decimal l ∷ signed_decimal s ∷ p ∷ [])) fc,
      cut-reads 9 (signed_decimal n) (tabs b (signed_decimal l ∷ signed_decimal s ∷ p ∷ [])) (number-plain n sn),
      number-reads n sn,
      cut-reads 9 b (tabs (signed_decimal l) (signed_decimal s ∷ p ∷ [])) fb,
      number_number_text-reads l s p sl ss fp,
    )

-- READ, THEN WRITTEN: where the whole holds no line feed

record Cut (t : List ℕ) (q : List ℕ × List ℕ) : Type 0 where
  word : Word q.0
  rest : Free 10 q.1
  text : t ≡ q.0 ++ (9 ∷ q.1)

word-says : (t : List ℕ) (q : List ℕ × List ℕ) → Free 10 t → cut_at 9 t ≡ Some q → Cut t q
word-says t q free e =
    let s = cut-says 9 t q e in
    let f = free-parts 10 q.0 (9 ∷ q.1) (subst (Free 10) s.0 free) in
    record { word = (s.1, f.0); rest = f.1.1; text = s.0 }

last_says : (t k : List ℕ) → last t ≡ Some k → Free 9 k × (t ≡ k)
last_says t k e = by (cut_at 9 t) refl e
  where
    by : (o : Option (List ℕ × List ℕ)) → cut_at 9 t ≡ o → last_by t o ≡ Some k → Free 9 k × (t ≡ k)
    by None is e = let same : t ≡ k = some_same e in (subst (Free 9) same (free-cut 9 t is), same)
    by (Some q) is e = let z : ◌≡◌ {A = ℕ} 0 1 = cc in absurd (omega arith)

pub text_number-says : (t : List ℕ) (p : List ℕ × ℤ) → Free 10 t → text_number t ≡ Some p → Word p.0 × Short p.1 × (t ≡ tabs p.0 (signed_decimal p.1 ∷ []))
text_number-says t p free e =
    let a = before-some (cut_at 9 t) _ p e in
    let b = before-some (number_of a.0.1) _ p a.2 in
    let s = word-says t a.0 free a.1 in
    let n = number-says a.0.1 b.0 b.1 in
    subst (λ p. Word p.0 × Short p.1 × (t ≡ tabs p.0 (signed_decimal p.1 ∷ []))) (some_same b.2)
    (s.word, n.0, s.text ∙ ap (λ l. a.0.0 ++ (9 ∷ l)) (sym n.1))

pub text_text_number-says : (t : List ℕ) (p : List ℕ × List ℕ × ℤ) → Free 10 t → text_text_number t ≡ Some p → Word p.0 × Word p.1 × Short p.2 × (t ≡ tabs p.0 (p.1 ∷ signed_decimal p.2 ∷ []))
text_text_number-says t p free e =
    let a = before-some (cut_at 9 t) _ p e in
    let b = before-some (text_number a.0.1) _ p a.2 in
    let s = word-says t a.0 free a.1 in
    let n = text_number-says a.0.1 b.0 s.rest b.1 in
    subst (λ p. Word p.0 × Word p.1 × Short p.2 × (t ≡ tabs p.0 (p.1 ∷ signed_decimal p.2 ∷ []))) (some_same b.2)
    (s.word, n.0, n.1, s.text ∙ ap (λ l. a.0.0 ++ (9 ∷ l)) n.2)

number_number-says : (t : List ℕ) (p : ℤ × ℤ) → number_number t ≡ Some p → Short p.0 × Short p.1 × (t ≡ tabs (signed_decimal p.0) (signed_decimal p.1 ∷ []))
number_number-says t p e =
    let a = before-some (cut_at 9 t) _ p e in
    let b = before-some (number_of a.0.0) _ p a.2 in
    let d = before-some (number_of a.0.1) _ p b.2 in
    let x = number-says a.0.0 b.0 b.1 in
    let y = number-says a.0.1 d.0 d.1 in
    subst (λ p. Short p.0 × Short p.1 × (t ≡ tabs (signed_decimal p.0) (signed_decimal p.1 ∷ []))) (some_same d.2)
    (x.0, y.0, (cut-says 9 t a.0 a.1).0 ∙ (λ i. sym x.1 i ++ (9 ∷ sym y.1 i)))

pub text_text_number_number-says : (t : List ℕ) (p : List ℕ × List ℕ × ℤ × ℤ) → Free 10 t → text_text_number_number t ≡ Some p → Word p.0 × Word p.1 × Short p.2 × Short p.3 × (t ≡ tabs p.0 (p.1 ∷ signed_decimal p.2 ∷ signed_decimal p.3 ∷ []))
text_text_number_number-says t p free e =
    let a = before-some (cut_at 9 t) _ p e in
    let b = before-some (cut_at 9 a.0.1) _ p a.2 in
    let d = before-some (number_number b.0.1) _ p b.2 in
    let s = word-says t a.0 free a.1 in
    let r = word-says a.0.1 b.0 s.rest b.1 in
    let n = number_number-says b.0.1 d.0 d.1 in
    subst (λ p. Word p.0 × Word p.1 × Short p.2 × Short p.3 × (t ≡ tabs p.0 (p.1 ∷ signed_decimal p.2 ∷ signed_decimal p.3 ∷ []))) (some_same d.2)
    (s.word, r.word, n.0, n.1, s.text ∙ ap (λ l. a.0.0 ++ (9 ∷ l)) (r.text ∙ ap (λ l. b.0.0 ++ (9 ∷ l)) n.2))

pub number_text-says : (t : List ℕ) (p : ℤ × List ℕ) → Free 10 t → number_text t ≡ Some p → Short p.0 × Word p.1 × (t ≡ tabs (signed_decimal p.0) (p.1 ∷ []))
number_text-says t p free e =
    let a = before-some (cut_at 9 t) _ p e in
    let b = before-some (number_of a.0.0) _ p a.2 in
    let d = before-some (last a.0.1) _ p b.2 in
    let s = word-says t a.0 free a.1 in
    let x = number-says a.0.0 b.0 b.1 in
    let k = last_says a.0.1 d.0 d.1 in
    subst (λ p. Short p.0 × Word p.1 × (t ≡ tabs (signed_decimal p.0) (p.1 ∷ []))) (some_same d.2)
    (x.0, (k.0, subst (Free 10) k.1 s.rest), s.text ∙ (λ i. sym x.1 i ++ (9 ∷ k.1 i)))

number_number_text-says : (t : List ℕ) (p : ℤ × ℤ × List ℕ) → Free 10 t → number_number_text t ≡ Some p → Short p.0 × Short p.1 × Word p.2 × (t ≡ tabs (signed_decimal p.0) (signed_decimal p.1 ∷ p.2 ∷ []))
number_number_text-says t p free e =
    let a = before-some (cut_at 9 t) _ p e in
    let b = before-some (number_of a.0.0) _ p a.2 in
    let d = before-some (number_text a.0.1) _ p b.2 in
    let s = word-says t a.0 free a.1 in
    let x = number-says a.0.0 b.0 b.1 in
    let k = number_text-says a.0.1 d.0 s.rest d.1 in
    subst (λ p. Short p.0 × Short p.1 × Word p.2 × (t ≡ tabs (signed_decimal p.0) (signed_decimal p.1 ∷ p.2 ∷ []))) (some_same d.2)
    (x.0, k.0, k.1, s.text ∙ (λ i. sym x.1 i ++ (9 ∷ k.2 i)))

-- three fields before the rest, put together
three-before : (t u v w c m n b z : List ℕ) → t ≡ c ++ (9 ∷ u) → u ≡ m ++ (9 ∷ v) → n ≡ m → v ≡ b ++ (9 ∷ w) → w ≡ z → t ≡ c ++ (9 ∷ (n ++ (9 ∷ (b ++ (9 ∷ z)))))
three-before t u v w c m n b z first second same third rest =
    let tail : v ≡ b ++ (9 ∷ z) = third ∙ ap (λ l. b ++ (9 ∷ l)) rest in
    let body : u ≡ n ++ (9 ∷ (b ++ (9 ∷ z))) = second ∙ (λ i. sym same i ++ (9 ∷ tail i)) in
    first ∙ ap (λ l. c ++ (9 ∷ l)) body

pub record Opened (t : List ℕ) (x : Line) : Type 0 where
  pub code : List ℕ
  pub number : ℤ
  pub base : List ℕ
  pub level : ℤ
  pub setting : ℤ
  pub priority : List ℕ
  pub is : opening code number base level setting priority ≡ x
  pub good : Word code × Short number × Word base × Short level × Short setting × Word priority
  pub text : t ≡ tabs code (signed_decimal number ∷ base ∷ signed_decimal level ∷ signed_decimal setting ∷ priority ∷ [])

pub opening-says : (t : List ℕ) (x : Line) → Free 10 t → opening_of t ≡ Some x → Opened t x
opening-says t x free e =
    let a = before-some (cut_at 9 t) _ x e in
    let b = before-some (cut_at 9 a.0.1) _ x a.2 in
    let n = before-some (number_of b.0.0) _ x b.2 in
    let d = before-some (cut_at 9 b.0.1) _ x n.2 in
    let q = before-some (number_number_text d.0.1) _ x d.2 in
    let sa = word-says t a.0 free a.1 in
    let sb = word-says a.0.1 b.0 sa.rest b.1 in
    let sn = number-says b.0.0 n.0 n.1 in
    let sd = word-says b.0.1 d.0 sb.rest d.1 in
    let sq = number_number_text-says d.0.1 q.0 sd.rest q.1 in
    record {
      code = a.0.0;
      number = n.0;
      base = d.0.0;
      level = q.0.0;
      setting = q.0.1;
      priority = q.0.2;
      is = some_same q.2;
      good = (sa.word, sn.0, sd.word, sq.0, sq.1, sq.2);
      text = three-before t a.0.1 b.0.1 d.0.1 a.0.0 b.0.0 (signed_decimal n.0) d.0.0 _ sa.text sb.text sn.1 sd.text sq.3;
    }
