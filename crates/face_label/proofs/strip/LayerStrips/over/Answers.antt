use Rattle.std.proofs.Common.{ℕ, ◌<◌, ℤ, get_or, [], ap, sym, subst, ◌∙◌}
use Rattle.std.specs.Prelude.{◌≤ℤ◌, pos, ◌*ℤ◌, nat_abs}
use Rattle.std.specs.Int.{int_div_euclid}
use Rattle.std.proofs.lemmas.List.{get_or_default}
use Rattle.grid.specs.Tiles.{steps}
use Rattle.face_label.specs.Strip.{edges_at}
use Rattle.geom.proofs.Doubling.{sum_back}
use Rattle.face_label.proofs.Striping.{sum_high, sum_low}
use Rattle.face_label.proofs.strip.LayerStrips.over.Goals as goal

pub strip_of-strip-requires-clause-low : goal.strip_of-strip-requires-clause-low
strip_of-strip-requires-clause-low g c =
    let e = c.args.edge in
    let P : ℤ → Type 0 = λ t. (pos 2 *ℤ c.self.inside.strips.low) ≤ℤ t in
    let Q : ℤ → Type 0 = λ t. t ≤ℤ c.args.edge.p.x in
    subst P (sym (sum_back e.p.x e.q.x c.requires.in_limit.a_in.x_in c.requires.in_limit.b_in.x_in)) (sum_low c.self.inside.strips.low e.p.x e.q.x (subst Q (sym (ap (λ s. s.strips.low) c.self.view_is)) c.requires.left) e.ordered.column)

pub strip_of-strip-requires-clause-high : goal.strip_of-strip-requires-clause-high
strip_of-strip-requires-clause-high g c =
    let e = c.args.edge in
    let P : ℤ → Type 0 = λ t. t ≤ℤ (pos 2 *ℤ c.self.inside.strips.high) in
    let Q : ℤ → Type 0 = λ t. c.args.edge.q.x ≤ℤ t in
    subst P (sym (sum_back e.p.x e.q.x c.requires.in_limit.a_in.x_in c.requires.in_limit.b_in.x_in)) (sum_high c.self.inside.strips.high e.p.x e.q.x (subst Q (sym (ap (λ s. s.strips.high) c.self.view_is)) c.requires.right) e.ordered.column)

pub returns : goal.returns
returns g c =
    let e = c.args.edge in
    let s = c.self.inside in
    let r = c.strip_of-strip.result in
    let P : ℕ → Type 0 = λ n. r < n in
    c.index.ensures ∙ get_or_default s.edges.items r c.index.result.now [] (subst P (sym c.self.invariant) c.strip_of-strip.ensures.within)
    ∙ ap (λ k. get_or s.edges.items k []) (sym (ap nat_abs c.strip_of-strip.ensures.value) ∙ ap (λ t. nat_abs (steps s.strips.low s.strips.width (int_div_euclid t (pos 2)))) (sum_back e.p.x e.q.x c.requires.in_limit.a_in.x_in c.requires.in_limit.b_in.x_in))
    ∙ ap (λ l. edges_at l e) c.self.view_is
