-- How an opening ends.
use Rattle.std.specs.Prelude.{ℕ, List, [], ◌∷◌, ◌++◌}
use Rattle.std.specs.Fmt.{signed_decimal}
use Rattle.account.specs.Priorities.{letters_all}
use Rattle.account.specs.Terms.{level_number, setting_number}
use Rattle.records.specs.declared.ending.Choices.{Choices}

-- level, setting and priority, parted by tabs, and the line feed
abbrev pub choices_ended : Choices → List ℕ
choices_ended x = signed_decimal (level_number x.level) ++ (9 ∷ (signed_decimal (setting_number x.setting) ++ (9 ∷ (letters_all x.priority ++ (10 ∷ [])))))
