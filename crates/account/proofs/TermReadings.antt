-- A level and a setting are read from the number that is written of them.
use Rattle.std.proofs.Common.{◌≡◌, ℕ, Bool, true, false, cond, eqb, ℤ, pos, negsuc, Some, None, sym, refl, ap, ◌∙◌, arith, eqb-true}
use Rattle.account.specs.declared.terms.DebitSetting.{DebitSetting}
use Rattle.account.specs.declared.terms.DebitSetting.TheVariants.{MarginCurrency, BaseCurrency}
use Rattle.account.specs.declared.terms.Level.{Level}
use Rattle.account.specs.declared.terms.Level.TheVariants.{MarginRequirement, CashOptimization}
use Rattle.account.specs.Terms.{one_or_two, level_number, level_of, setting_number, setting_of}

-- whatever is read from 1 or 2 and written as 1 or 2
one-or-two : {X : Type 0} (one two : X) (number : X → ℤ) → number one ≡ pos 1 → number two ≡ pos 2 → (z : ℤ) (x : X) → one_or_two one two z ≡ Some x → number x ≡ z
one-or-two one two number first second (pos n) x e = by (eqb n 1) refl (eqb n 2) refl e
  where
    by : (a : Bool) → eqb n 1 ≡ a → (b : Bool) → eqb n 2 ≡ b → cond a (Some one) (cond b (Some two) None) ≡ Some x → number x ≡ pos n
    by true is b _ e = let same : one ≡ x = cc in ap number (sym same) ∙ first ∙ ap pos (sym (eqb-true n 1 is))
    by false _ true is e = let same : two ≡ x = cc in ap number (sym same) ∙ second ∙ ap pos (sym (eqb-true n 2 is))
    by false _ false _ e = let z : ◌≡◌ {A = ℕ} 0 1 = cc in absurd (omega arith)
one-or-two one two number first second (negsuc n) x e = let z : ◌≡◌ {A = ℕ} 0 1 = cc in absurd (omega arith)

pub level-says : (z : ℤ) (l : Level) → level_of z ≡ Some l → level_number l ≡ z
level-says = one-or-two MarginRequirement CashOptimization level_number refl refl

pub setting-says : (z : ℤ) (d : DebitSetting) → setting_of z ≡ Some d → setting_number d ≡ z
setting-says = one-or-two MarginCurrency BaseCurrency setting_number refl refl

pub level-reads : (l : Level) → level_of (level_number l) ≡ Some l
level-reads MarginRequirement = refl
level-reads CashOptimization = refl

pub setting-reads : (d : DebitSetting) → setting_of (setting_number d) ≡ Some d
setting-reads MarginCurrency = refl
setting-reads BaseCurrency = refl
