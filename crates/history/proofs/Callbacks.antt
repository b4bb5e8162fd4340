-- A callback that is granted leaves the account at zero or above, with its limit covered.
use Rattle.std.proofs.Common.{◌≡◌, ℕ, true, false, cond, List, ℤ, pos, ◌+ℤ◌, ◌-ℤ◌, ◌*ℤ◌, ◌≤ℤ◌, Some, None, Option, sym, refl, ap, ◌∙◌, subst, arith, ne_eqb}
use borrow.Author.Tests.{eqb-false}
use Rattle.std.proofs.lemmas.Int.{ints, clamps}
use Rattle.std.specs.Option.{option_map}
use Rattle.money.specs.declared.currency.Currency.{Currency}
use Rattle.money.specs.Currencies.{place, is_same}
use Rattle.money.specs.Options.{first_of}
use Rattle.money.specs.Ranges.{rate_range}
use Rattle.money.proofs.EachCurrency.{same-itself}
use Rattle.account.specs.declared.account.AccountState.{AccountState}
use Rattle.account.specs.declared.account.Figures.{Figures}
use Rattle.account.specs.Accounts.{figures_in, has_code, sound, Ranged}
use Rattle.account.specs.Amounts.{standing_amount, due_to_house}
use Rattle.account.specs.Bookings.{callback_booked, change_figures}
use Rattle.account.proofs.Ranges.{within-says}
use Rattle.account.proofs.SoundAccounts.{figures-ranged}
use Rattle.valuation.specs.Laws.{InRange}
use Rattle.determination.specs.Standings.{standing_amount_in, standing}
use Rattle.valuation.specs.Valuations.{Valuation, IsLawful}
use Rattle.determination.proofs.Points.{Valued, points, taking-costs}
use Rattle.determination.proofs.Sums.{sum-one-less}
use Rattle.history.specs.Bookings.{booked, change_first, callback_refusal}
use Rattle.history.specs.Laws.{CallbackLaw, CoversLimit}
use Rattle.history.specs.States.{State, market_of, missing_rate, account_with}
use Rattle.history.proofs.Concluding.{rated}
use Rattle.history.proofs.Found.{found-every, found-changed}
use Rattle.history.proofs.Invariant.{Invariant}
use Rattle.history.proofs.Keeping.{Granted, granted}
use Rattle.history.proofs.Named.{Named, booked-is}
use Rattle.history.proofs.Places.{figures-with}

-- the account after the callback
abbrev called_back : ℤ → Currency → AccountState → AccountState
called_back w c a = change_figures (callback_booked w) c a

other_way : (c d : Currency) → is_same c d ≡ false → is_same d c ≡ false
other_way c d e = ne_eqb (place d) (place c) (λ is. eqb-false (place c) (place d) e (sym is))

amount-here : (a : AccountState) (c : Currency) (w : ℤ) → sound a ≡ true → standing_amount_in (called_back w c a) c ≡ standing_amount_in a c -ℤ w
amount-here a c w fine =
    ap standing_amount (figures-with a c c (callback_booked w (figures_in a c)) fine ∙ ap (λ b. cond b (callback_booked w (figures_in a c)) (figures_in a c)) (same-itself c))
    ∙ omega (arith, ints)

amount-there : (a : AccountState) (c d : Currency) (w : ℤ) → sound a ≡ true → is_same d c ≡ false → standing_amount_in (called_back w c a) d ≡ standing_amount_in a d
amount-there a c d w fine other =
    ap standing_amount (figures-with a c d (callback_booked w (figures_in a c)) fine ∙ ap (λ b. cond b (callback_booked w (figures_in a c)) (figures_in a d)) other)

amount-in-range : (f : Figures) → Ranged f → InRange (standing_amount f)
amount-in-range f r = omega (arith, ints, r.cash.low, r.cash.high, r.limit.low, r.limit.high, r.non_cash.low, r.non_cash.high, r.requirement.low, r.requirement.high)

callback-stands : (v : Valuation) (s : State) (a : AccountState) (c : Currency) (w : ℤ) → Valued v (market_of s) a.base → sound a ≡ true → Granted v s a c w → pos 0 ≤ℤ standing v (market_of s) (called_back w c a)
unfolding standing
callback-stands v s a c w valued fine g =
    let m = market_of s in
    let before : Currency → ℤ = λ d. points v m a.base d (standing_amount_in a d) in
    let now : Currency → ℤ = λ d. points v m a.base d (standing_amount_in (called_back w c a) d) in
    let costs = taking-costs valued c (standing_amount_in a c) w (amount-in-range _ (figures-ranged a fine c)) (omega (arith, ints, g.least)) (omega (arith, ints, clamps, g.least, g.amount)) in
    let here : now c ≡ points v m a.base c (standing_amount_in a c -ℤ w) = ap (points v m a.base c) (amount-here a c w fine) in
    let falls = sum-one-less before now (w *ℤ m.rate c) c (λ d other. same_points d (amount-there a c d w fine (other_way c d other))) (subst (λ z. before c ≤ℤ (z +ℤ (w *ℤ m.rate c))) (sym here) costs) in
    omega (arith, ints, falls, g.worth)
  where
    same_points : (d : Currency) {x y : ℤ} → y ≡ x → points v (market_of s) a.base d x ≤ℤ points v (market_of s) a.base d y
    same_points d is = let e = ap (points v (market_of s) a.base d) is in omega (arith, ints, e)

callback-covers-limit : (a : AccountState) (c : Currency) (w : ℤ) → sound a ≡ true → w ≤ℤ (((figures_in a c).cash -ℤ (figures_in a c).limit) -ℤ due_to_house (figures_in a c)) → CoversLimit (called_back w c a) c
callback-covers-limit a c w fine free =
    subst (λ f. f.limit ≤ℤ f.cash) (sym (figures-with a c c (callback_booked w (figures_in a c)) fine ∙ ap (λ b. cond b (callback_booked w (figures_in a c)) (figures_in a c)) (same-itself c)))
    (omega (arith, ints, clamps, free))

valued-for : (v : Valuation) (s : State) (a : AccountState) → IsLawful v → Invariant v s → missing_rate s ≡ None → v.admits a.base ≡ true → Valued v (market_of s) a.base
valued-for v s a lawful inv missing admitted = record {
  laws = lawful;
  admitted = admitted;
  rated = λ c. let r = within-says rate_range ((market_of s).rate c) (rated v s inv missing c) in omega (arith, ints, r.0);
}

pub callback-law : (v : Valuation) (s : State) (named currency : List ℕ) (w : ℤ) → IsLawful v → Invariant v s → callback_refusal v s named currency w ≡ None → CallbackLaw v named currency (booked s named currency (callback_booked w))
callback-law v s named currency w lawful inv e =
    let g = granted v s named currency w e in
    let n = g.0 in
    subst (CallbackLaw v named currency) (sym (booked-is s named currency n (callback_booked w))) (record {
      covered = λ code b c is_code is_currency found.
          let key : code ≡ n.key = let p = n.is_code in cc in
          let unit : n.unit ≡ c = let p = n.is_currency in cc in
          let change = called_back w n.unit in
          let again : option_map change (account_with s n.key) ≡ Some b = sym (found-changed (has_code n.key) change (λ a. refl) s.accounts) ∙ ap (λ k. first_of (has_code k) (change_first (has_code n.key) change s.accounts)) (sym key) ∙ found in
          subst (λ c. (pos 0 ≤ℤ standing v (market_of s) b) × CoversLimit b c) unit (by n g.1 b (account_with s n.key) refl again);
    })
  where
    by : (n : Named s named currency) → ((a : AccountState) → account_with s n.key ≡ Some a → Granted v s a n.unit w) → (b : AccountState) (o : Option AccountState) → account_with s n.key ≡ o → option_map (called_back w n.unit) o ≡ Some b → (pos 0 ≤ℤ standing v (market_of s) b) × CoversLimit b n.unit
    by n grants b None found e = let z : ◌≡◌ {A = ℕ} 0 1 = cc in absurd (omega arith)
    by n grants b (Some a) found e =
        let g = grants a found in
        let fine = found-every sound (has_code n.key) s.accounts a inv.sound found in
        let admitted = found-every (λ a. v.admits a.base) (has_code n.key) s.accounts a inv.admitted found in
        let is : called_back w n.unit a ≡ b = cc in
        subst (λ b. (pos 0 ≤ℤ standing v (market_of s) b) × CoversLimit b n.unit) is
        (callback-stands v s a n.unit w (valued-for v s a lawful inv g.rated admitted) fine g, callback-covers-limit a n.unit w fine g.free)
