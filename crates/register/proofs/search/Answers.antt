-- The answer of the standard search, in an ascending row.
use Rattle.std.proofs.Common.{length}
use Rattle.register.proofs.RowLaws.{met-within, ended-within, met-cases, parted, place_found, is-place, count-parted, point-found}
use Rattle.register.proofs.search.Goals as goal

pub returns : goal.returns
returns g c =
    let keys = c.args.keys.now in
    let key = c.args.key.now in
    let r = c.binary_search.result in
    let e = c.binary_search.ensures in
    let met = met-within (length keys) r e.bound in
    let ended = ended-within (length keys) r e.bound in
    record {
      met_within = met;
      met_answer = λ o up. place_found o keys up key _ met (met-cases o keys up key r e.position);
      met_place = λ o exact up. is-place o keys up key exact _ met (met-cases o keys up key r e.position);
      ended_within = ended;
      ended_answer = λ o up. let p = parted o keys up key r e.bound e.position in count-parted g.K.Ord.cmp key keys _ ended p.0 p.1;
      ended_point = λ o up. point-found o keys up key _ ended (parted o keys up key r e.bound e.position);
    }
