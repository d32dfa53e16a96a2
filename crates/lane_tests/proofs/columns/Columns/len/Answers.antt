use Rattle.std.proofs.Common.{◌≡◌, length, sym, ap, ◌∙◌}
use Rattle.lane_tests.proofs.PairLists.{length-pairs_of}
use Rattle.lane_tests.proofs.columns.Columns.len.Goals as goal

pub returns-clause-value : goal.returns-clause-value
returns-clause-value g c =
    let h = c.self.invariant in
    let e : length c.self.inside.px.items ≡ length c.args.self.now = sym (length-pairs_of _ _ _ _ h.bottom_len h.right_len h.top_len) ∙ ap length c.self.view_is in
    c.len.ensures ∙ c.self.inside.px.ok.0 ∙ e
