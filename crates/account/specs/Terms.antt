-- The terms of an account, and the numbers that write them.
use Rattle.std.specs.Prelude.{cond, ℤ, pos, negsuc, Some, None, Option, ◌==◌}
use Rattle.account.specs.declared.terms.DebitSetting.{DebitSetting}
use Rattle.account.specs.declared.terms.DebitSetting.TheVariants.{MarginCurrency, BaseCurrency}
use Rattle.account.specs.declared.terms.Level.{Level}
use Rattle.account.specs.declared.terms.Level.TheVariants.{MarginRequirement, CashOptimization}

-- the first of two for 1, the second for 2, and none for any other number
abbrev pub one_or_two : {X : Type 0} → X → X → ℤ → Option X
one_or_two one two (pos n) = cond (n == 1) (Some one) (cond (n == 2) (Some two) None)
one_or_two one two (negsuc n) = None

abbrev pub level_number : Level → ℤ
level_number MarginRequirement = pos 1
level_number CashOptimization = pos 2

abbrev pub level_of : ℤ → Option Level
level_of number = one_or_two MarginRequirement CashOptimization number

abbrev pub setting_number : DebitSetting → ℤ
setting_number MarginCurrency = pos 1
setting_number BaseCurrency = pos 2

abbrev pub setting_of : ℤ → Option DebitSetting
setting_of number = one_or_two MarginCurrency BaseCurrency number
