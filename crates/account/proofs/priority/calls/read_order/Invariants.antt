use Rattle.std.proofs.Common.{◌≡◌, ◌+◌, ◌*◌, length, take}
use Rattle.money.specs.Currencies.{currencies}
use Rattle.account.specs.Priorities.{named}
use Rattle.account.proofs.Namings.{after}
use Rattle.account.proofs.priority.calls.read_order.Given as goal

-- the currencies read so far stand before those still to come
abbrev pub invariant-loop-place : goal.invariant-loop-place
invariant-loop-place l =
    let letters = l.place-iterator.iter in
    let place = l.place-iterator.count in
    record {
      named : named l.text ≡ after (take place l.order) (named letters.rest.now);
      rest : 3 * place + length letters.rest.now ≡ 3 * length currencies;
      three : letters.size ≡ 3;
      order : length l.order ≡ length currencies;
    }
