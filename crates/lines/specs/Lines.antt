-- The lines of a sheet: how they are written, and how they are read.
use Rattle.std.specs.Prelude.{◌≡◌, ℕ, ◌≤◌, cond, List, [], ◌∷◌, ◌++◌, length, ℤ, Some, None, Option, ◌==◌, nat_le}
use Rattle.std.specs.Fmt.{signed_decimal}
use Rattle.money.specs.Options.{before}
use Rattle.money.specs.Refusals.{Told}
use Rattle.text.specs.Cuts.{cut_at, Free}
use Rattle.text.specs.Numbers.{number_of, Short}
use Rattle.lines.specs.Faults.{no_form}

-- what a line says, with its fields as they stand
pub data Line : Type 0 where
  rate : List ℕ → ℤ → Line
  holiday : List ℕ → ℤ → Line
  opening : List ℕ → ℤ → List ℕ → ℤ → ℤ → List ℕ → Line
  limits : List ℕ → List ℕ → ℤ → ℤ → Line
  margin : List ℕ → List ℕ → ℤ → ℤ → Line
  deposit : List ℕ → List ℕ → ℤ → Line
  settlement : List ℕ → List ℕ → ℤ → Line
  callback : List ℕ → List ℕ → ℤ → Line

-- HOW A LINE IS WRITTEN

-- the letters R, H, A, L, M, D, S and B
abbrev pub letter : Line → ℕ
letter (rate k x) = 82
letter (holiday k x) = 72
letter (opening c n b l s p) = 65
letter (limits c k x y) = 76
letter (margin c k x y) = 77
letter (deposit c k x) = 68
letter (settlement c k x) = 83
letter (callback c k x) = 66

abbrev pub fields : Line → List (List ℕ)
fields (rate k x) = k ∷ signed_decimal x ∷ []
fields (holiday k x) = k ∷ signed_decimal x ∷ []
fields (opening c n b l s p) = c ∷ signed_decimal n ∷ b ∷ signed_decimal l ∷ signed_decimal s ∷ p ∷ []
fields (limits c k x y) = c ∷ k ∷ signed_decimal x ∷ signed_decimal y ∷ []
fields (margin c k x y) = c ∷ k ∷ signed_decimal x ∷ signed_decimal y ∷ []
fields (deposit c k x) = c ∷ k ∷ signed_decimal x ∷ []
fields (settlement c k x) = c ∷ k ∷ signed_decimal x ∷ []
fields (callback c k x) = c ∷ k ∷ signed_decimal x ∷ []

-- a tab before each field, and the line feed at the end
abbrev pub ended : List (List ℕ) → List ℕ
ended [] = 10 ∷ []
ended (f ∷ fs) = 9 ∷ (f ++ ended fs)

abbrev pub written : Line → List ℕ
written l = letter l ∷ ended (fields l)

-- a text field holds neither tab nor line feed
abbrev pub Word : List ℕ → Type 0
Word t = Free 9 t × Free 10 t

abbrev pub Good : Line → Type 0
Good (rate k x) = Word k × Short x
Good (holiday k x) = Word k × Short x
Good (opening c n b l s p) = Word c × Short n × Word b × Short l × Short s × Word p
Good (limits c k x y) = Word c × Word k × Short x × Short y
Good (margin c k x y) = Word c × Word k × Short x × Short y
Good (deposit c k x) = Word c × Word k × Short x
Good (settlement c k x) = Word c × Word k × Short x
Good (callback c k x) = Word c × Word k × Short x

-- these bytes are the form of that line: at most 128 before the line feed
pub record Form (bytes : List ℕ) (l : Line) : Type 0 where
  pub good : Good l
  pub long : length bytes ≤ 129
  pub text : written l ≡ bytes

-- HOW A LINE IS READ

abbrev pub last_by : List ℕ → Option (List ℕ × List ℕ) → Option (List ℕ)
last_by t None = Some t
last_by t (Some p) = None

-- a text that ends the line: it holds no tab
abbrev pub last : List ℕ → Option (List ℕ)
last t = last_by t (cut_at 9 t)

-- a text and a number, parted by a tab
abbrev pub text_number : List ℕ → Option (List ℕ × ℤ)
text_number t = before (cut_at 9 t) (λ p. before (number_of p.1) (λ x. Some (p.0, x)))

abbrev pub text_text_number : List ℕ → Option (List ℕ × List ℕ × ℤ)
text_text_number t = before (cut_at 9 t) (λ p. before (text_number p.1) (λ q. Some (p.0, q.0, q.1)))

abbrev pub number_number : List ℕ → Option (ℤ × ℤ)
number_number t = before (cut_at 9 t) (λ p. before (number_of p.0) (λ x. before (number_of p.1) (λ y. Some (x, y))))

abbrev pub text_text_number_number : List ℕ → Option (List ℕ × List ℕ × ℤ × ℤ)
text_text_number_number t = before (cut_at 9 t) (λ p. before (cut_at 9 p.1) (λ q. before (number_number q.1) (λ x. Some (p.0, q.0, x.0, x.1))))

abbrev pub number_text : List ℕ → Option (ℤ × List ℕ)
number_text t = before (cut_at 9 t) (λ p. before (number_of p.0) (λ x. before (last p.1) (λ k. Some (x, k))))

abbrev pub number_number_text : List ℕ → Option (ℤ × ℤ × List ℕ)
number_number_text t = before (cut_at 9 t) (λ p. before (number_of p.0) (λ x. before (number_text p.1) (λ q. Some (x, q.0, q.1))))

-- a line of a text and a number
abbrev pub of_text_number : (List ℕ → ℤ → Line) → List ℕ → Option Line
of_text_number make t = before (text_number t) (λ p. Some (make p.0 p.1))

-- a line of two texts and a number
abbrev pub of_text_text_number : (List ℕ → List ℕ → ℤ → Line) → List ℕ → Option Line
of_text_text_number make t = before (text_text_number t) (λ p. Some (make p.0 p.1 p.2))

-- a line of two texts and two numbers
abbrev pub of_text_text_number_number : (List ℕ → List ℕ → ℤ → ℤ → Line) → List ℕ → Option Line
of_text_text_number_number make t = before (text_text_number_number t) (λ p. Some (make p.0 p.1 p.2 p.3))

abbrev pub opening_of : List ℕ → Option Line
opening_of t =
    before (cut_at 9 t) (λ c. before (cut_at 9 c.1) (λ n. before (number_of n.0) (λ x. before (cut_at 9 n.1) (λ b. before (number_number_text b.1) (λ q.
    Some (opening c.0 x b.0 q.0 q.1 q.2))))))

-- the fields that follow a letter and its tab
abbrev pub fielded : ℕ → List ℕ → Option Line
fielded l t =
    cond (l == 82) (of_text_number rate t)
    (cond (l == 72) (of_text_number holiday t)
    (cond (l == 65) (opening_of t)
    (cond (l == 76) (of_text_text_number_number limits t)
    (cond (l == 77) (of_text_text_number_number margin t)
    (cond (l == 68) (of_text_text_number deposit t)
    (cond (l == 83) (of_text_text_number settlement t)
    (cond (l == 66) (of_text_text_number callback t) None)))))))

abbrev pub lettered : List ℕ → Option Line
lettered [] = None
lettered (l ∷ []) = None
lettered (l ∷ t ∷ fs) = cond (t == 9) (fielded l fs) None

-- what stands before the line feed, which is the only one and the last byte
abbrev pub body_of : List ℕ → Option (List ℕ)
body_of bytes = before (cut_at 10 bytes) (λ p. cond (length p.1 == 0) (cond (nat_le (length p.0) 128) (Some p.0) None) None)

-- the line that these bytes are the form of
unfoldable pub parsed : List ℕ → Option Line
parsed bytes = before (body_of bytes) lettered

-- the form of no line is refused
abbrev pub form_fault : Option Line → Option Told
form_fault None = Some no_form
form_fault (Some l) = None
