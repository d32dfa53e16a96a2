use Rattle.std.proofs.Common.{◌≡◌, map, of_z, subst, sym, to_z, to_z-of_z, w32}
use Rattle.std.specs.Prelude.{Contains}
use Rattle.std.proofs.Math.IntN.{ℤ}
use Rattle.std.proofs.lemmas.List.Elements.{All-contains}
use Rattle.geom.specs.Rounded.{edges_of}
use Rattle.label_sweep.specs.Column.{AreCrossing, HaveCrossing}
use Rattle.label_sweep.proofs.Borders.{fits}
use Rattle.label_sweep.proofs.Passing.{vertex_in_limit}
use Rattle.label_sweep.proofs.Columns.{column_is_swept}
use Rattle.label_sweep.proofs.pass.SweepLine.before.Goals as goal

pub returns-clause-swept : goal.returns-clause-swept
returns-clause-swept g c all b = rw (c.in_ok-fill.ensures.standing, c.deref.ensures.value)
    (let spokes = c.in_ok-spokes.spokes.items in
    let x : to_z w32 (of_z w32 c.args.v.x) ≡ c.args.v.x = to_z-of_z (fits c.args.v.x (vertex_in_limit all b.layers c.args.v b.vertex).x_in) in
    column_is_swept all b.layers c.args.v b.column spokes
    (subst (λ (t : ℤ). AreCrossing (edges_of all) t (map (λ s. s.one.edge) spokes)) x
    (c.in_ok-spokes.ensures.crossing all b.layers (subst (λ (t : ℤ). HaveCrossing all t c.args.counted.now) (sym x) b.crossing)))
    (λ k d l. All-contains (Contains all) c.args.counted.now _ b.crossing.inside (c.in_ok-spokes.ensures.inside k d l)))
