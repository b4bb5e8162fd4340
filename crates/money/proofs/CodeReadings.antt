-- A code is read from its eight characters, and written as them.
use Rattle.std.proofs.Common.{◌≡◌, ℕ, ◌≤◌, Bool, true, false, cond, eqb, leb, List, [], ◌∷◌, length, Some, None, IsAscii, sym, refl, ap, ◌∙◌, subst, append-nil, arith, eqb-true, le-leb}
use Rattle.std.proofs.lemmas.Str.Ascii.{encodes-IsAscii, IsAscii-nil, IsAscii-cons}
use Rattle.std.proofs.lemmas.Bool.{and_parts, and_from}
use Rattle.std.proofs.lemmas.Bool.Decides.{nat_tests}
use Rattle.money.specs.declared.code.Code.{Code}
use Rattle.money.specs.Options.{every}
use Rattle.money.specs.Codes.{is_code_byte, formed, bytes_of, eight, code_of, shown_code}

-- a character of a code is neither below the digits nor above the capitals
code-byte : (b : ℕ) → is_code_byte b ≡ true → (48 ≤ b) × (b ≤ 90)
code-byte b e = (grind (arith, nat_tests), grind (arith, nat_tests))

formed-ascii : (bs : List ℕ) → formed bs ≡ true → IsAscii bs
formed-ascii [] e = IsAscii-nil
formed-ascii (b ∷ bs) e =
    let p = and_parts (is_code_byte b) (formed bs) e in
    let h = code-byte b p.0 in
    IsAscii-cons b bs (omega arith) (formed-ascii bs p.1)

pub code-spelt : (c : Code) → formed (bytes_of c) ≡ true → shown_code c ≡ bytes_of c
code-spelt c e = sym (simp append-nil) ∙ encodes-IsAscii (bytes_of c) (formed-ascii (bytes_of c) e)

eight-all : (t : List ℕ) → length t ≡ 8 → bytes_of (eight t) ≡ t
eight-all [] e = absurd (omega arith)
eight-all (a ∷ []) e = absurd (omega arith)
eight-all (a ∷ b ∷ []) e = absurd (omega arith)
eight-all (a ∷ b ∷ c ∷ []) e = absurd (omega arith)
eight-all (a ∷ b ∷ c ∷ d ∷ []) e = absurd (omega arith)
eight-all (a ∷ b ∷ c ∷ d ∷ f ∷ []) e = absurd (omega arith)
eight-all (a ∷ b ∷ c ∷ d ∷ f ∷ g ∷ []) e = absurd (omega arith)
eight-all (a ∷ b ∷ c ∷ d ∷ f ∷ g ∷ h ∷ []) e = absurd (omega arith)
eight-all (a ∷ b ∷ c ∷ d ∷ f ∷ g ∷ h ∷ i ∷ []) e = refl
eight-all (a ∷ b ∷ c ∷ d ∷ f ∷ g ∷ h ∷ i ∷ j ∷ t) e = absurd (omega arith)

-- what is read as a code is well formed, and what is written of it
pub code-says : (text : List ℕ) (c : Code) → code_of text ≡ Some c → (formed (bytes_of c) ≡ true) × (shown_code c ≡ text)
unfolding code_of
code-says text c e = go (eqb (length text) 8) refl (formed (bytes_of (eight text))) refl e
  where
    go : (b : Bool) → eqb (length text) 8 ≡ b → (f : Bool) → formed (bytes_of (eight text)) ≡ f → cond b (cond f (Some (eight text)) None) None ≡ Some c → (formed (bytes_of c) ≡ true) × (shown_code c ≡ text)
    go true long true good e =
        let same : eight text ≡ c = cc in
        subst (λ c. (formed (bytes_of c) ≡ true) × (shown_code c ≡ text)) same (good, code-spelt (eight text) good ∙ eight-all text (eqb-true _ 8 long))
    go true long false good e = let z : ◌≡◌ {A = ℕ} 0 1 = cc in absurd (omega arith)
    go false long f good e = let z : ◌≡◌ {A = ℕ} 0 1 = cc in absurd (omega arith)

-- and a code that is well formed is read again
pub code_reads : (c : Code) → formed (bytes_of c) ≡ true → code_of (shown_code c) ≡ Some c
unfolding code_of
code_reads c e = ap code_of (code-spelt c e) ∙ rw e

-- no character of it is below the digits
pub code-high : (c : Code) → formed (bytes_of c) ≡ true → every (λ b. leb 48 b) (shown_code c) ≡ true
code-high c e = rw (code-spelt c e) (high (bytes_of c) e)
  where
    high : (bs : List ℕ) → formed bs ≡ true → every (λ b. leb 48 b) bs ≡ true
    high [] e = refl
    high (b ∷ bs) e =
        let p = and_parts (is_code_byte b) (formed bs) e in
        and_from _ _ (le-leb 48 b (code-byte b p.0).0) (high bs p.1)

pub code-eight : (c : Code) → formed (bytes_of c) ≡ true → length (shown_code c) ≡ 8
code-eight c e = ap length (code-spelt c e)
