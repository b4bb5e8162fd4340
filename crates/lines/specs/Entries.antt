-- What an order says, and the fields that it is cut from.
use Rattle.std.specs.Prelude.{ℕ, List, ℤ, Some, None, Ok, Err, Option, Result}
use Rattle.std.specs.Borrow.{Bor}
use Rattle.request.specs.declared.order.Order.{Order}
use Rattle.request.specs.declared.order.Order.TheVariants.{Rate, Holiday, Opening, Limits, Margin, Deposit, Settlement, Callback}
use Rattle.lines.specs.declared.fault.SheetFault.{SheetFault}
use Rattle.lines.specs.Lines.{Line, rate, holiday, opening, limits, margin, deposit, settlement, callback, Form}

abbrev pub meant : Order → Line
meant (Rate k x) = rate k.now x
meant (Holiday k x) = holiday k.now x
meant (Opening o) = opening o.code.now o.number o.base.now o.level o.setting o.priority.now
meant (Limits c k x y) = limits c.now k.now x y
meant (Margin c k x y) = margin c.now k.now x y
meant (Deposit c k x) = deposit c.now k.now x
meant (Settlement c k x) = settlement c.now k.now x
meant (Callback c k x) = callback c.now k.now x

-- FIELDS AS THEY ARE CUT

abbrev pub held_text_number : Option (Bor (List ℕ) × ℤ) → Option (List ℕ × ℤ)
held_text_number None = None
held_text_number (Some p) = Some (p.0.now, p.1)

abbrev pub held_text_text_number : Option (Bor (List ℕ) × Bor (List ℕ) × ℤ) → Option (List ℕ × List ℕ × ℤ)
held_text_text_number None = None
held_text_text_number (Some p) = Some (p.0.now, p.1.now, p.2)

abbrev pub held_text_text_number_number : Option (Bor (List ℕ) × Bor (List ℕ) × ℤ × ℤ) → Option (List ℕ × List ℕ × ℤ × ℤ)
held_text_text_number_number None = None
held_text_text_number_number (Some p) = Some (p.0.now, p.1.now, p.2, p.3)

abbrev pub held_number_text : Option (ℤ × Bor (List ℕ)) → Option (ℤ × List ℕ)
held_number_text None = None
held_number_text (Some p) = Some (p.0, p.1.now)

abbrev pub held_number_number_text : Option (ℤ × ℤ × Bor (List ℕ)) → Option (ℤ × ℤ × List ℕ)
held_number_number_text None = None
held_number_number_text (Some p) = Some (p.0, p.1, p.2.now)

-- ORDERS

abbrev pub heard : Option Order → Option Line
heard None = None
heard (Some e) = Some (meant e)

abbrev pub entry_of : Result Order SheetFault → Option Line
entry_of (Ok e) = Some (meant e)
entry_of (Err f) = None

-- the answer is the line that these bytes are the form of, and a refusal just where they are the form of none
abbrev pub Exactly : List ℕ → Result Order SheetFault → Type 0
Exactly bytes (Ok e) = Form bytes (meant e)
Exactly bytes (Err f) = (l : Line) → Form bytes l → ⊥
