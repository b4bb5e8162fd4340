-- Account codes: eight characters, each A to Z or 0 to 9.
use Rattle.std.specs.Prelude.{ℕ, Bool, true, cond, ◌&&◌, List, [], ◌∷◌, ◌++◌, length, Some, None, Option, ◌==◌, slice_index}
use Rattle.std.proofs.Math.Utf8.{encode}
use Rattle.std.specs.Char.{is_ascii_uppercase, is_ascii_digit}
use Rattle.money.specs.declared.code.Code.{Code}

abbrev pub is_code_byte : ℕ → Bool
is_code_byte b = cond (is_ascii_uppercase b) true (is_ascii_digit b)

-- all of them are capital letters or digits
abbrev pub formed : List ℕ → Bool
formed [] = true
formed (b ∷ bs) = is_code_byte b && formed bs

abbrev pub bytes_of : Code → List ℕ
bytes_of c = c.0 ∷ c.1 ∷ c.2 ∷ c.3 ∷ c.4 ∷ c.5 ∷ c.6 ∷ c.7 ∷ []

-- the code that the first eight bytes of a text make
abbrev pub eight : List ℕ → Code
eight t = record { 0 = slice_index t 0; 1 = slice_index t 1; 2 = slice_index t 2; 3 = slice_index t 3; 4 = slice_index t 4; 5 = slice_index t 5; 6 = slice_index t 6; 7 = slice_index t 7 }

abbrev pub of_eight : List ℕ → Option Code
of_eight t = cond (length t == 8) (cond (formed (bytes_of (eight t))) (Some (eight t)) None) None

-- the code that a text is, if it is well formed
unfoldable pub code_of : List ℕ → Option Code
code_of t = of_eight t

-- what is printed of a code: its eight characters
abbrev pub shown_code : Code → List ℕ
shown_code c = encode c.0 ++ (encode c.1 ++ (encode c.2 ++ (encode c.3 ++ (encode c.4 ++ (encode c.5 ++ (encode c.6 ++ encode c.7))))))
