-- What is mapped over the currencies, by calls that leave their closure as it was.
use Rattle.std.proofs.Common.{◌≡◌, ℕ, zero, suc, ◌+◌, ◌<◌, List, map, get_or, sym, refl, ap, ◌∙◌, subst, arith}
use Rattle.std.specs.Array.{MapsFrom, IsMapOf}
use Rattle.std.proofs.lemmas.List.{get_or-map, ext_get_or}
use denote.Param.Members.{Mut, Called}
use Rattle.money.specs.declared.currency.Currency.{Currency}
use Rattle.money.specs.declared.currency.Currency.TheVariants.{Gbp}
use Rattle.money.specs.Currencies.{currencies}

module _ {F B : Type 0} (g : Mut F (Currency × Unit {0}) B) (h : Currency → B) (f : F) (pure : (q : F) (c : Currency) (y : B) → Called g f (c, tt) y q → (y ≡ h c) × (q ≡ f)) where
  from : (cs : List Currency) (ys : List B) (e : B) (p : F) (i n j k : ℕ) → p ≡ f → MapsFrom g p cs ys i n → k < n → j ≡ i + k → get_or ys j e ≡ h (get_or cs j Gbp)
  from cs ys e p i zero j k is m less at = absurd (omega arith)
  from cs ys e p i (suc n) j zero is m less at =
      let gave = pure m.0 m.1 m.2 (subst (λ p. Called g p (m.1, tt) m.2 m.0) is m.5) in
      let here : j ≡ i = omega arith in
      ap (λ k. get_or ys k e) here ∙ m.4.1 e ∙ gave.0 ∙ ap h (sym (m.3.1 Gbp)) ∙ ap (λ k. h (get_or cs k Gbp)) (sym here)
  from cs ys e p i (suc n) j (suc k) is m less at =
      let gave = pure m.0 m.1 m.2 (subst (λ p. Called g p (m.1, tt) m.2 m.0) is m.5) in
      from cs ys e m.0 (i + 1) n j k gave.1 m.6 (omega arith) (omega arith)

  pub mapped : (ys : List B) → B → IsMapOf g f currencies ys 6 → ys ≡ map h currencies
  mapped ys e m =
      ext_get_or e ys (map h currencies) m.long
      (λ k l. from currencies ys e f 0 6 k k refl m.each (omega (arith, m.long)) (omega arith) ∙ sym (get_or-map h currencies k Gbp e (omega (arith, m.long))))
