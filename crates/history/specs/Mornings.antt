-- Worked mornings: figures that the definitions give, each worked out by hand.
use Rattle.std.specs.Prelude.{◌≡◌, true, not, List, [], ◌∷◌, ℤ, pos, neg_ℤ, Some, None, codes}
use Rattle.money.specs.declared.cause.AccountCause.TheVariants.{PastBound}
use Rattle.money.specs.declared.cause.Cause.TheVariants.{Account}
use Rattle.money.specs.declared.currency.Currency.{Currency}
use Rattle.money.specs.declared.currency.Currency.TheVariants.{Gbp, Dkk, Eur, Nok, Sek, Usd}
use Rattle.money.specs.Codes.{eight}
use Rattle.money.specs.Currencies.{is_same}
use Rattle.money.specs.Refusals.{tells}
use Rattle.account.specs.declared.account.AccountState.{AccountState}
use Rattle.account.specs.declared.account.Figures.{Figures}
use Rattle.account.specs.declared.terms.DebitSetting.TheVariants.{MarginCurrency}
use Rattle.account.specs.declared.terms.Level.{Level}
use Rattle.account.specs.declared.terms.Level.TheVariants.{MarginRequirement, CashOptimization}
use Rattle.account.specs.Accounts.{figures_in, with_figures, new_account}
use Rattle.account.specs.Bookings.{deposit_booked}
use Rattle.valuation.specs.FlatCharges.{flat_count, flat_charge}
use Rattle.valuation.specs.Norms.{norm_count, lending_norms}
use Rattle.determination.specs.declared.determination.Determination.{Determination}
use Rattle.determination.specs.Determinations.{balance_in, total, call, repayment, share, determination}
use Rattle.determination.specs.Standings.{standing}
use Rattle.determination.specs.Valuations.{Market}
use Rattle.history.specs.Bookings.{deposit_refusal, booked, with_accounts}
use Rattle.history.specs.Calls.{FailedDebit}
use Rattle.history.specs.Runs.{net_payment, carried_out, concluded_account}
use Rattle.history.specs.States.{State, new_state}

-- THE FIGURES THAT ARE GIVEN

-- ten-thousandths of the common money
abbrev pub rates : Currency → ℤ
rates Gbp = pos 130000
rates Dkk = pos 15000
rates Eur = pos 110000
rates Nok = pos 10000
rates Sek = pos 10000
rates Usd = pos 100000

abbrev pub all_open : Market
all_open = record { rate = rates; is_open = λ c. true }

abbrev pub shut_in : Currency → Market
shut_in shut = record { rate = rates; is_open = λ c. not (is_same shut c) }

abbrev pub krona : List Currency
krona = Sek ∷ Eur ∷ Gbp ∷ Dkk ∷ Nok ∷ Usd ∷ []

abbrev pub krona_then_dollar : List Currency
krona_then_dollar = Sek ∷ Usd ∷ Eur ∷ Gbp ∷ Dkk ∷ Nok ∷ []

-- an account AAAA0001 of optimization account 7 that debits in margin currency
abbrev pub account_of : Currency → Level → List Currency → AccountState
account_of base level priority = new_account (eight (codes "AAAA0001")) 7 base level MarginCurrency priority

abbrev pub figures_with : ℤ → ℤ → ℤ → Figures
figures_with cash settlement requirement = record { cash = cash; limit = pos 0; excess = pos 0; non_cash = pos 0; requirement = requirement; settlement = settlement }

-- SEK cash 500,000, open settlement 200,000, requirement 1,000,000, and EUR cash as given
abbrev pub member : Currency → Level → ℤ → AccountState
member base level cash = with_figures (with_figures (account_of base level krona) Sek (figures_with (pos 500000) (pos 200000) (pos 1000000))) Eur (figures_with cash (pos 0) (pos 0))

-- requirements alone: SEK 100,000 and USD 20,000
abbrev pub short_twice : AccountState
short_twice = with_figures (with_figures (account_of Eur MarginRequirement krona_then_dollar) Sek (figures_with (pos 0) (pos 0) (pos 100000))) Usd (figures_with (pos 0) (pos 0) (pos 20000))

-- a determination with a share in SEK
abbrev pub share_in_krona : ℤ → Determination
share_in_krona x = record { calls = []; repayments = []; shares = pos 0 ∷ pos 0 ∷ pos 0 ∷ pos 0 ∷ x ∷ pos 0 ∷ [] }

-- a book with one account that has this much EUR cash
abbrev pub book_with : ℤ → State
book_with cash = with_accounts (new_state 1) (with_figures (account_of Eur MarginRequirement krona) Eur (figures_with cash (pos 0) (pos 0)) ∷ []) []

-- the SEK debit of optimization account 7 failed
abbrev pub krona_failed : List FailedDebit
krona_failed = record { number = pos 7; currency = codes "SEK" } ∷ []

-- the account at level 2 after a conclusion with that failed debit
abbrev pub after_failed_debit : AccountState
after_failed_debit =
    let a = member Eur CashOptimization (pos 100000) in
    let es = (a, determination flat_charge all_open a) ∷ [] in
    concluded_account (carried_out all_open es krona_failed 7) (a, determination flat_charge all_open a)

-- WHAT FOLLOWS

pub record WorkedMornings : Type 0 where
  -- outside the base a surplus of 101 counts 90, a deficiency of 101 counts -112
  pub charged_surplus : flat_count Eur Sek (pos 101) ≡ pos 90
  pub charged_deficiency : flat_count Eur Sek (neg_ℤ (pos 101)) ≡ neg_ℤ (pos 112)
  -- shares of 220,000 and -50,000 under one number net to 170,000
  pub shares_net :
      net_payment ((member Eur MarginRequirement (pos 0), share_in_krona (pos 220000)) ∷ (short_twice, share_in_krona (neg_ℤ (pos 50000))) ∷ []) 7 Sek ≡ pos 170000
  -- at level 1 cash covers what is due first; the surplus in the base is repaid
  pub covered_balance : balance_in (member Eur MarginRequirement (pos 100000)) Sek ≡ neg_ℤ (pos 700000)
  pub total_in_points : total flat_charge all_open (member Eur MarginRequirement (pos 100000)) ≡ pos 3300000000
  pub surplus_repaid : repayment flat_charge all_open (member Eur MarginRequirement (pos 100000)) Eur ≡ pos 30000
  -- with less cash the deficiency is called
  pub deficiency_called : call flat_charge all_open (member Eur MarginRequirement (pos 50000)) Sek ≡ pos 220000
  -- with SEK shut it is called in the first open currency, and the account does not stand at zero after it
  pub called_elsewhere : call flat_charge (shut_in Sek) (member Gbp MarginRequirement (pos 50000)) Eur ≡ pos 25000
  pub standing_below_zero :
      standing flat_charge (shut_in Sek) (concluded_account (shut_in Sek).is_open (member Gbp MarginRequirement (pos 50000), determination flat_charge (shut_in Sek) (member Gbp MarginRequirement (pos 50000))))
      ≡ neg_ℤ (pos 275000000)
  -- a deposit that reaches the bound passes, one more is refused
  pub deposit_to_bound : deposit_refusal (book_with (pos 99999999999)) (codes "AAAA0001") (codes "EUR") (pos 1) ≡ None
  pub deposit_past_bound :
      deposit_refusal (booked (book_with (pos 99999999999)) (codes "AAAA0001") (codes "EUR") (deposit_booked (pos 1))) (codes "AAAA0001") (codes "EUR") (pos 1)
      ≡ Some (tells (Account PastBound) (Some (eight (codes "AAAA0001"))) (Some Eur))
  -- at level 2 all open settlement is in the share
  pub settlement_in_share : share flat_charge all_open (member Eur CashOptimization (pos 100000)) Sek ≡ pos 200000
  pub repaid_at_level_two : repayment flat_charge all_open (member Eur CashOptimization (pos 100000)) Eur ≡ pos 50000
  -- under the lending norms the deficiency counts in full
  pub counted_by_norm : norm_count Eur Sek (balance_in (member Eur CashOptimization (pos 100000)) Sek) ≡ neg_ℤ (pos 500000)
  pub repaid_by_norm : repayment lending_norms all_open (member Eur CashOptimization (pos 100000)) Eur ≡ pos 54545
  -- beside a failed debit no credit leaves, and what was due stays open
  pub credit_withheld : (figures_in after_failed_debit Eur).cash ≡ pos 100000
  pub settlement_stays_open : (figures_in after_failed_debit Sek).settlement ≡ pos 200000
  -- each deficiency is called by priority, and the rest in the first open currency besides
  pub first_called_besides : call flat_charge all_open short_twice Sek ≡ pos 130000
  pub second_called : call flat_charge all_open short_twice Usd ≡ pos 20000
