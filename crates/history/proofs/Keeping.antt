-- Every call that changes rates, holidays or single accounts keeps the invariant.
use Rattle.std.proofs.Common.{◌≡◌, ℕ, Bool, true, false, cond, not, ◌||◌, List, [], ◌∷◌, set, ℤ, pos, ◌+ℤ◌, ◌-ℤ◌, ◌*ℤ◌, nat_abs, ◌≤ℤ◌, is_some, Some, None, Option, sym, refl, ap, ◌∙◌, subst, arith, length-set}
use Rattle.std.proofs.lemmas.Int.{ints, clamps}
use Rattle.std.proofs.lemmas.Bool.{and_parts, and_from}
use Rattle.money.specs.declared.currency.Currency.{Currency}
use Rattle.money.specs.declared.status.Status.{Status}
use Rattle.money.specs.Codes.{bytes_of, code_of}
use Rattle.money.specs.Currencies.{currency_of, place}
use Rattle.money.specs.Options.{every, before}
use Rattle.money.specs.Ranges.{within, rate_range, figure_range, settlement_range, payment_range, optimization_range, fine_rate}
use Rattle.money.specs.Statuses.{status_of}
use Rattle.account.specs.declared.account.AccountState.{AccountState}
use Rattle.account.specs.declared.account.Figures.{Figures}
use Rattle.account.specs.Accounts.{figures_in, new_account, has_code, sound, UpToBound, Ranged}
use Rattle.account.specs.Amounts.{due_to_house}
use Rattle.account.specs.Bookings.{with_limits, with_margin, change_figures, deposit_booked, settlement_booked, callback_booked}
use Rattle.account.specs.Priorities.{names_each_once, named, priority_of}
use Rattle.account.specs.Terms.{level_of, setting_of}
use Rattle.account.proofs.Ceilings.{ceilings-tell}
use Rattle.account.proofs.Lists.{every_set}
use Rattle.account.proofs.Ranges.{within-says}
use Rattle.account.proofs.SoundAccounts.{figures-ranged, sound-with, sound-new}
use Rattle.determination.specs.Standings.{standing_amount_in, standing, within_ceilings}
use Rattle.valuation.specs.Valuations.{Valuation}
use Rattle.history.specs.declared.optimization.OptimizationAccount.{OptimizationAccount}
use Rattle.money.specs.CodeOrders.{is_below}
use Rattle.history.specs.Bookings.{with_rates, with_statuses, with_accounts, rate_refusal, rate_set, holiday_refusal, holiday_set, held_under, is_held, admits_base, opening_refusal, insert_account, opened, with_opened, figures_of, limits_faults, margin_faults, deposit_faults, settlement_faults, callback_faults, limits_refusal, margin_refusal, deposit_refusal, settlement_refusal, is_stopped, is_within_ceilings, callback_refusal, booked}
use Rattle.request.specs.Causes.{is_none, outside}
use Rattle.history.specs.States.{State, is_running, market_of, missing_rate, account_with}
use Rattle.history.proofs.Invariant.{Tied, Invariant}
use Rattle.history.proofs.Lists.{every-changed}
use Rattle.history.proofs.Named.{Named, named-says, figures-of, or_same-some, booked-is}
use Rattle.history.proofs.Tests.{none_told, is-there, not_there, not-not, is_within, both_ways}

-- where no run is open nothing is kept
idle-tied : (v : Valuation) (s t : State) → is_running s ≡ false → is_running s ≡ true → Tied v t
idle-tied v s t idle e = both_ways (is_running s) e idle

-- RATES AND HOLIDAYS

pub keeps-rate : (v : Valuation) (s : State) (currency : List ℕ) (rate : ℤ) → Invariant v s → rate_refusal s currency rate ≡ None → Invariant v (rate_set s currency rate)
keeps-rate v s currency rate inv e =
    let run = none_told (is_running s) _ _ e in
    let unknown = none_told (is_none (currency_of currency)) _ _ run.1 in
    let range = none_told (outside rate_range rate) _ _ unknown.1 in
    let c = is-there (currency_of currency) unknown.0 in
    subst (Invariant v) (sym (or_same-some s (currency_of currency) (λ c. with_rates s (set s.rates (place c) (Some rate))) c.0 c.1)) (record {
      sound = inv.sound;
      admitted = inv.admitted;
      rates = every_set fine_rate s.rates (place c.0) (Some rate) inv.rates (is_within rate_range rate range.0);
      rate_for_each = length-set s.rates (place c.0) (Some rate) ∙ inv.rate_for_each;
      tied = idle-tied v s _ run.0;
    })

pub keeps-holiday : (v : Valuation) (s : State) (currency : List ℕ) (flag : ℤ) → Invariant v s → holiday_refusal s currency flag ≡ None → Invariant v (holiday_set s currency flag)
keeps-holiday v s currency flag inv e =
    let run = none_told (is_running s) _ _ e in
    let unknown = none_told (is_none (currency_of currency)) _ _ run.1 in
    let range = none_told (is_none (status_of flag)) _ _ unknown.1 in
    let c = is-there (currency_of currency) unknown.0 in
    let status = is-there (status_of flag) range.0 in
    let shut : Currency → Status → State = λ c status. with_statuses s (set s.statuses (place c) status) in
    let is : holiday_set s currency flag ≡ shut c.0 status.0 = or_same-some s (currency_of currency) _ c.0 c.1 ∙ or_same-some s (status_of flag) _ status.0 status.1 in
    subst (Invariant v) (sym is) (record { sound = inv.sound; admitted = inv.admitted; rates = inv.rates; rate_for_each = inv.rate_for_each; tied = idle-tied v s _ run.0 })

-- ACCOUNTS

pub keeps-accounts : (v : Valuation) (s : State) (accounts : List AccountState) (optimizations : List OptimizationAccount) → Invariant v s → is_running s ≡ false → every sound accounts ≡ true → every (λ a. v.admits a.base) accounts ≡ true → Invariant v (with_accounts s accounts optimizations)
keeps-accounts v s accounts optimizations inv idle a b = record { sound = a; admitted = b; rates = inv.rates; rate_for_each = inv.rate_for_each; tied = idle-tied v s _ idle }

pub every_inserted : (f : AccountState → Bool) (a : AccountState) (xs : List AccountState) → f a ≡ true → every f xs ≡ true → every f (insert_account a xs) ≡ true
every_inserted f a [] is all = and_from _ _ is refl
every_inserted f a (x ∷ xs) is all = by (is_below (bytes_of a.code) (bytes_of x.code)) (and_parts (f x) (every f xs) all) (every_inserted f a xs is)
  where
    by : (b : Bool) → (f x ≡ true) × (every f xs ≡ true) → (every f xs ≡ true → every f (insert_account a xs) ≡ true) → every f (cond b (a ∷ x ∷ xs) (x ∷ insert_account a xs)) ≡ true
    by true p later = and_from _ _ is (and_from _ _ p.0 p.1)
    by false p later = and_from _ _ p.0 (later p.1)

-- a priority that is read names each currency once
priority-once : (text : List ℕ) (order : List Currency) → priority_of text ≡ Some order → names_each_once order ≡ true
unfolding priority_of
priority-once text order e = by (named text) e
  where
    some : (order' : List Currency) (b : Bool) → names_each_once order' ≡ b → cond b (Some order') None ≡ Some order → names_each_once order ≡ true
    some order' true is e = let same : order' ≡ order = cc in ap names_each_once (sym same) ∙ is
    some order' false is e = let z : ◌≡◌ {A = ℕ} 0 1 = cc in absurd (omega arith)

    by : (o : Option (List Currency)) → before o (λ order. cond (names_each_once order) (Some order) None) ≡ Some order → names_each_once order ≡ true
    by None e = let z : ◌≡◌ {A = ℕ} 0 1 = cc in absurd (omega arith)
    by (Some order') e = some order' (names_each_once order') refl e

neither : (a b : Bool) → (a || b) ≡ false → (a ≡ false) × (b ≡ false)
neither true b e = let z : ◌≡◌ {A = ℕ} 0 1 = cc in absurd (omega arith)
neither false b e = (refl, e)

pub keeps-opening : (v : Valuation) (s : State) (code : List ℕ) (number : ℤ) (base : List ℕ) (level setting : ℤ) (priority : List ℕ) → Invariant v s → opening_refusal v s code number base level setting priority ≡ None → Invariant v (opened s code number base level setting priority)
keeps-opening v s code number base level setting priority inv e =
    let run = none_told (is_running s) _ _ e in
    let form = none_told (is_none (code_of code)) _ _ run.1 in
    let held = none_told (is_held s code) _ _ form.1 in
    let unknown = none_told (is_none (currency_of base)) _ _ held.1 in
    let numbered = none_told (outside optimization_range number) _ _ unknown.1 in
    let terms = none_told (is_none (level_of level) || is_none (setting_of setting)) _ _ numbered.1 in
    let order = none_told (is_none (priority_of priority)) _ _ terms.1 in
    let admits = none_told (not (admits_base v (currency_of base))) _ _ order.1 in
    let k = is-there (code_of code) form.0 in
    let b = is-there (currency_of base) unknown.0 in
    let l = is-there (level_of level) (neither _ _ terms.0).0 in
    let d = is-there (setting_of setting) (neither (is_none (level_of level)) _ terms.0).1 in
    let p = is-there (priority_of priority) order.0 in
    let a = new_account k.0 (nat_abs number) b.0 l.0 d.0 p.0 in
    let is : opened s code number base level setting priority ≡ with_opened s a =
    or_same-some s (code_of code) _ k.0 k.1 ∙ or_same-some s (currency_of base) _ b.0 b.1 ∙ or_same-some s (level_of level) _ l.0 l.1
    ∙ or_same-some s (setting_of setting) _ d.0 d.1 ∙ or_same-some s (priority_of priority) _ p.0 p.1 in
    let fine : sound a ≡ true = sound-new k.0 (nat_abs number) b.0 l.0 d.0 p.0 (priority-once priority p.0 p.1) in
    let admitted : v.admits b.0 ≡ true = ap (admits_base v) (sym b.1) ∙ not-not (admits_base v (currency_of base)) admits.0 in
    subst (Invariant v) (sym is) (keeps-accounts v s _ _ inv run.0 (every_inserted sound a s.accounts fine inv.sound) (every_inserted (λ a. v.admits a.base) a s.accounts admitted inv.admitted))

-- a change of the figures of one account that leaves them in range
keeps-booked : (v : Valuation) (s : State) (code currency : List ℕ) (change : Figures → Figures) → Invariant v s → (n : Named s code currency) → ((a : AccountState) → account_with s n.key ≡ Some a → Ranged (figures_in a n.unit) → Ranged (change (figures_in a n.unit))) → Invariant v (booked s code currency change)
keeps-booked v s code currency change inv n ranged =
    subst (Invariant v) (sym (booked-is s code currency n change)) (keeps-accounts v s _ _ inv n.idle
    (every-changed sound (has_code n.key) (change_figures change n.unit) s.accounts inv.sound (λ a is fine. sound-with a n.unit _ fine (ranged a is (figures-ranged a fine n.unit))))
    (every-changed (λ a. v.admits a.base) (has_code n.key) (change_figures change n.unit) s.accounts inv.admitted (λ a is fine. fine)))

up_to : (x : ℤ) → within figure_range x ≡ true → UpToBound x
up_to x e = let p = within-says figure_range x e in record { low = p.0; high = p.1 }

pub keeps-limits : (v : Valuation) (s : State) (code currency : List ℕ) (limit excess : ℤ) → Invariant v s → limits_refusal s code currency limit excess ≡ None → Invariant v (booked s code currency (with_limits limit excess))
keeps-limits v s code currency limit excess inv e =
    let n = named-says s code currency (limits_faults code currency limit excess) e in
    let range = none_told (outside figure_range limit || outside figure_range excess) _ _ n.1 in
    let both = neither (outside figure_range limit) _ range.0 in
    keeps-booked v s code currency (with_limits limit excess) inv n.0 (λ a is r. record {
      cash = r.cash;
      limit = up_to limit (is_within figure_range limit both.0);
      excess = up_to excess (is_within figure_range excess both.1);
      non_cash = r.non_cash;
      requirement = r.requirement;
      lowest = r.lowest;
      highest = r.highest;
    })

pub keeps-margin : (v : Valuation) (s : State) (code currency : List ℕ) (requirement non_cash : ℤ) → Invariant v s → margin_refusal s code currency requirement non_cash ≡ None → Invariant v (booked s code currency (with_margin requirement non_cash))
keeps-margin v s code currency requirement non_cash inv e =
    let n = named-says s code currency (margin_faults code currency requirement non_cash) e in
    let range = none_told (outside figure_range requirement || outside figure_range non_cash) _ _ n.1 in
    let both = neither (outside figure_range requirement) _ range.0 in
    keeps-booked v s code currency (with_margin requirement non_cash) inv n.0 (λ a is r. record {
      cash = r.cash;
      limit = r.limit;
      excess = r.excess;
      non_cash = up_to non_cash (is_within figure_range non_cash both.1);
      requirement = up_to requirement (is_within figure_range requirement both.0);
      lowest = r.lowest;
      highest = r.highest;
    })

pub keeps-deposit : (v : Valuation) (s : State) (code currency : List ℕ) (amount : ℤ) → Invariant v s → deposit_refusal s code currency amount ≡ None → Invariant v (booked s code currency (deposit_booked amount))
keeps-deposit v s code currency amount inv e =
    let n = named-says s code currency (deposit_faults s code currency amount) e in
    let range = none_told (outside payment_range amount) _ _ n.1 in
    let past = none_told (outside figure_range ((figures_of s code currency).cash +ℤ amount)) _ _ range.1 in
    let fits = is_within figure_range ((figures_of s code currency).cash +ℤ amount) past.0 in
    keeps-booked v s code currency (deposit_booked amount) inv n.0 (λ a is r. record {
      cash = up_to _ (subst (λ f. within figure_range (f.cash +ℤ amount) ≡ true) (figures-of s code currency n.0 a is) fits);
      limit = r.limit;
      excess = r.excess;
      non_cash = r.non_cash;
      requirement = r.requirement;
      lowest = r.lowest;
      highest = r.highest;
    })

pub keeps-settlement : (v : Valuation) (s : State) (code currency : List ℕ) (amount : ℤ) → Invariant v s → settlement_refusal s code currency amount ≡ None → Invariant v (booked s code currency (settlement_booked amount))
keeps-settlement v s code currency amount inv e =
    let n = named-says s code currency (settlement_faults s code currency amount) e in
    let range = none_told (outside settlement_range amount) _ _ n.1 in
    let past = none_told (outside settlement_range ((figures_of s code currency).settlement +ℤ amount)) _ _ range.1 in
    let fits = is_within settlement_range ((figures_of s code currency).settlement +ℤ amount) past.0 in
    keeps-booked v s code currency (settlement_booked amount) inv n.0 (λ a is r.
    let p = within-says settlement_range _ (subst (λ f. within settlement_range (f.settlement +ℤ amount) ≡ true) (figures-of s code currency n.0 a is) fits) in
    record { cash = r.cash; limit = r.limit; excess = r.excess; non_cash = r.non_cash; requirement = r.requirement; lowest = p.0; highest = p.1 })

-- CALLBACKS

-- the three ceilings, and the least that is called back
pub record Granted (v : Valuation) (s : State) (a : AccountState) (c : Currency) (w : ℤ) : Type 0 where
  pub least : pos 1 ≤ℤ w
  pub free : w ≤ℤ (((figures_in a c).cash -ℤ (figures_in a c).limit) -ℤ due_to_house (figures_in a c))
  pub amount : w ≤ℤ standing_amount_in a c
  pub worth : (w *ℤ (market_of s).rate c) ≤ℤ standing v (market_of s) a
  pub rated : missing_rate s ≡ None

pub granted : (v : Valuation) (s : State) (code currency : List ℕ) (w : ℤ) → callback_refusal v s code currency w ≡ None → (n : Named s code currency) × ((a : AccountState) → account_with s n.key ≡ Some a → Granted v s a n.unit w)
granted v s code currency w e =
    let n = named-says s code currency (callback_faults v s code currency w) e in
    let range = none_told (outside payment_range w) _ _ n.1 in
    let rate = none_told (is_some (missing_rate s)) _ _ range.1 in
    let stop = none_told (is_stopped s (held_under s (code_of code))) _ _ rate.1 in
    let ceiling = none_told (not (is_within_ceilings v s (held_under s (code_of code)) (currency_of currency) w)) _ _ stop.1 in
    let passes = not-not (is_within_ceilings v s (held_under s (code_of code)) (currency_of currency) w) ceiling.0 in (
      n.0,
      λ a is.
          let found : held_under s (code_of code) ≡ Some a = ap (held_under s) n.0.is_code ∙ is in
          let within : within_ceilings v (market_of s) a n.0.unit w ≡ true = (λ i. is_within_ceilings v s (sym found i) (sym n.0.is_currency i) w) ∙ passes in
          let c = ceilings-tell (figures_in a n.0.unit) ((market_of s).rate n.0.unit) (standing v (market_of s) a) w within in
          record {
            least = (within-says payment_range w (is_within payment_range w range.0)).0;
            free = c.free;
            amount = c.stood;
            worth = c.worth;
            rated = not_there (missing_rate s) rate.0;
          },
    )

pub keeps-callback : (v : Valuation) (s : State) (code currency : List ℕ) (w : ℤ) → Invariant v s → callback_refusal v s code currency w ≡ None → Invariant v (booked s code currency (callback_booked w))
keeps-callback v s code currency w inv e =
    let g = granted v s code currency w e in
    keeps-booked v s code currency (callback_booked w) inv g.0 (λ a is r.
    let h = g.1 a is in
    record {
      cash = record { low = omega (arith, ints, clamps, h.least, h.free, r.limit.low); high = omega (arith, ints, h.least, r.cash.high) };
      limit = r.limit;
      excess = r.excess;
      non_cash = r.non_cash;
      requirement = r.requirement;
      lowest = r.lowest;
      highest = r.highest;
    })
