-- What a refusal tells: number, layer, and the code and the currency of the call where they are well formed.
use Rattle.std.specs.Prelude.{ℕ, List, ◌++◌, Some, None, Ok, Err, codes, decimal, Option, Result}
use Rattle.money.specs.declared.cause.Cause.{Cause}
use Rattle.money.specs.declared.cause.Layer.{Layer}
use Rattle.money.specs.declared.code.Code.{Code}
use Rattle.money.specs.declared.currency.Currency.{Currency}
use Rattle.money.specs.declared.refusal.Fault.{Fault}
use Rattle.money.specs.Causes.{number, layer, layer_name}
use Rattle.money.specs.Codes.{shown_code}
use Rattle.money.specs.Currencies.{letters}

pub record Told : Type 0 where
  pub number : ℕ
  pub layer : Layer
  pub code : Option Code
  pub currency : Option Currency

abbrev pub tells : Cause → Option Code → Option Currency → Told
tells cause code currency = record { number = number cause; layer = layer cause; code = code; currency = currency }

-- a refusal as it is printed: a fault of any layer
abbrev pub Refusal : Type 0
Refusal = Fault Cause

abbrev pub told : Refusal → Told
told r = tells r.cause r.code r.currency

-- what an answer refuses, where a fault of its layer tells so much
abbrev pub refusal_of : {X E : Type 0} → (E → Told) → Result X E → Option Told
refusal_of tell (Ok x) = None
refusal_of tell (Err f) = Some (tell f)

-- what is shown of something, or a dash where there is nothing
abbrev pub or_dash : {X : Type 0} → (X → Option (List ℕ)) → Option X → Option (List ℕ)
or_dash show None = Some (codes "-")
or_dash show (Some x) = show x

abbrev pub code_or : Option Code → List ℕ
code_or None = codes "-"
code_or (Some c) = shown_code c

abbrev pub currency_or : Option Currency → List ℕ
currency_or None = codes "-"
currency_or (Some c) = letters c

-- layer, number, code and currency, parted by single spaces
abbrev pub shown_told : Told → List ℕ
shown_told t = layer_name t.layer ++ (codes " " ++ (decimal t.number ++ (codes " " ++ (code_or t.code ++ (codes " " ++ currency_or t.currency)))))
