-- Cutting a sheet into its lines.
use Rattle.std.proofs.Common.{◌≡◌, ℕ, suc, ◌<◌, ◌≤◌, ◌⊎◌, Bool, true, false, cond, not, eqb, List, [], ◌∷◌, length, take, drop, min, refl, inl, inr, arith}
use Rattle.std.specs.List.{position_or_len}
use Rattle.std.proofs.lemmas.Bool.{cases_lt}
use Rattle.std.proofs.lemmas.List.{take_all, drop_all}
use Rattle.text.specs.Rows.{onto_first, rows}

rows_behind : (c : ℕ) (cs : List ℕ) → rows (c ∷ cs) ≡ take (suc (position_or_len (λ b. eqb b 10) (c ∷ cs))) (c ∷ cs) ∷ rows (drop (suc (position_or_len (λ b. eqb b 10) (c ∷ cs))) (c ∷ cs))
rows_behind c [] = by (eqb c 10)
  where
    by : (b : Bool) → cond b ((c ∷ []) ∷ []) ((c ∷ []) ∷ []) ≡ (c ∷ take (cond (not b) 1 0) []) ∷ rows (drop (cond (not b) 1 0) [])
    by true = refl
    by false = refl
rows_behind c (d ∷ ds) = by (eqb c 10) (position_or_len (λ b. eqb b 10) (d ∷ ds)) _ (omega arith) (rows_behind d ds)
  where
    by : (b : Bool) (p n : ℕ) → n ≡ suc p → rows (d ∷ ds) ≡ take (suc p) (d ∷ ds) ∷ rows (drop (suc p) (d ∷ ds)) → cond b ((c ∷ []) ∷ rows (d ∷ ds)) (onto_first c (rows (d ∷ ds))) ≡ take (suc (cond (not b) n 0)) (c ∷ d ∷ ds) ∷ rows (drop (suc (cond (not b) n 0)) (c ∷ d ∷ ds))
    by true p n e is = refl
    by false p n e is = rw (e, is) refl

-- the first line ends behind the first line feed, or with the sheet
pub first_row : (xs : List ℕ) (n : ℕ) → 0 < length xs → n ≡ min (suc (position_or_len (λ b. eqb b 10) xs)) (length xs) → rows xs ≡ take n xs ∷ rows (drop n xs)
first_row [] n some is = absurd (omega arith)
first_row (c ∷ cs) n some is = by (cases_lt (position_or_len (λ b. eqb b 10) (c ∷ cs)) (length (c ∷ cs)))
  where
    p : ℕ
    p = position_or_len (λ b. eqb b 10) (c ∷ cs)

    by : (p < length (c ∷ cs)) ⊎ (length (c ∷ cs) ≤ p) → rows (c ∷ cs) ≡ take n (c ∷ cs) ∷ rows (drop n (c ∷ cs))
    by (inl l) = let e : n ≡ suc p = omega (arith, is) in rw e (rows_behind c cs)
    by (inr l) = let whole = take_all (suc p) (c ∷ cs) (omega arith) in let none = drop_all (suc p) (c ∷ cs) (omega arith) in
        rw (take_all n (c ∷ cs) (omega (arith, is)), drop_all n (c ∷ cs) (omega (arith, is))) (rw (whole, none) at (rows_behind c cs))
