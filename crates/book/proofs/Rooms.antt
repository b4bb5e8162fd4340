-- How many rows a book has.
use Rattle.std.proofs.Common.{◌≡◌, ◌<◌, false, length, vec_items, vec_len, ap, arith, leb-false}
use Rattle.std.proofs.Math.ListN.{length-map}
use Rattle.account.specs.Answers.{state_of}
use Rattle.book.specs.declared.book.Book.{Book}
use Rattle.book.specs.Books.{meaning}
use Rattle.book.specs.Openings.{is_full_of_accounts, is_full_of_numbers}

module _ {V : Type 0} (b : Book V) where
  pub rows-length : vec_len b.accounts.rows ≡ vec_len b.codes
  rows-length =
      omega (arith, ap length b.coded, length-map (vec_items b.accounts.rows) (λ a. (state_of a).code), b.accounts.rows.ok.0, b.codes.ok.0)

  pub accounts-length : length (meaning b).accounts ≡ vec_len b.codes
  accounts-length = omega (arith, rows-length, length-map (vec_items b.accounts.rows) state_of, b.accounts.rows.ok.0)

  pub optimizations-length : length (meaning b).optimizations ≡ vec_len b.numbers
  optimizations-length = omega (arith, ap length b.numbered, length-map (vec_items b.optimizations) (λ o. o.number), b.numbers.ok.0)

  pub accounts-left : is_full_of_accounts (meaning b) ≡ false → vec_len b.codes < 64
  accounts-left e = omega (arith, leb-false 64 (length (meaning b).accounts) e, accounts-length)

  pub numbers-left : is_full_of_numbers (meaning b) ≡ false → vec_len b.numbers < 16
  numbers-left e = omega (arith, leb-false 16 (length (meaning b).optimizations) e, optimizations-length)
