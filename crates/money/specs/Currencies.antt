-- The currencies: book order, letters, and how they are read.
use Rattle.std.specs.Prelude.{ℕ, Bool, List, [], ◌∷◌, ◌++◌, codes, Option, ◌==◌, slice_index}
use Rattle.std.proofs.Math.Utf8.{encode}
use Rattle.std.specs.Str.{bytes_eq}
use Rattle.money.specs.declared.currency.Currency.{Currency}
use Rattle.money.specs.declared.currency.Currency.TheVariants.{Gbp, Dkk, Eur, Nok, Sek, Usd}
use Rattle.money.specs.Options.{first_of}

-- book order
abbrev pub currencies : List Currency
currencies = Gbp ∷ Dkk ∷ Eur ∷ Nok ∷ Sek ∷ Usd ∷ []

-- the place in book order, from 0
abbrev pub place : Currency → ℕ
place Gbp = 0
place Dkk = 1
place Eur = 2
place Nok = 3
place Sek = 4
place Usd = 5

abbrev pub is_same : Currency → Currency → Bool
is_same c d = place c == place d

-- the three letters that a currency is written with
abbrev pub letters : Currency → List ℕ
letters Gbp = codes "GBP"
letters Dkk = codes "DKK"
letters Eur = codes "EUR"
letters Nok = codes "NOK"
letters Sek = codes "SEK"
letters Usd = codes "USD"

-- what three characters write
abbrev pub spelt : List ℕ → List ℕ
spelt cs = encode (slice_index cs 0) ++ (encode (slice_index cs 1) ++ encode (slice_index cs 2))

abbrev pub is_written : List ℕ → Currency → Bool
is_written text c = bytes_eq text (letters c)

-- the currency that a text writes, if book order has it
unfoldable pub currency_of : List ℕ → Option Currency
currency_of text = first_of (is_written text) currencies
