use Rattle.std.proofs.Common.{◌≡◌, ◌∙◌, ◌++◌, ap, arith, length, rules}
use Rattle.engine.proofs.PairsRunning.{result_behind}
use Rattle.engine.proofs.columns_pairs.PairResults.push.Goals as goal

pub returns : goal.returns
returns g c = λ results h.
    let polygons = c.args.polygons.items in
    let past = c.in_ok-map_err.field-0 in
    let value : past ≡ c.len-past.result = search rules in
    let long : c.len-past.result ≡ length c.append.new.self.items = omega (arith, c.len-past.ensures, c.append.new.self.ok) in
    let added : c.append.new.self.items ≡ c.args.self.now.polygons.items ++ polygons = c.in_ok-append.ensures.items in
    result_behind results polygons c.args.self.now (record { polygons = c.append.new.self; features = c.push.new.self }) past h added c.in_ok-push.ensures.items (value ∙ long ∙ ap length added)
