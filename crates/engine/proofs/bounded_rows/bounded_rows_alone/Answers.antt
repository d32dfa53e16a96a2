use Rattle.std.proofs.Common.{◌≡◌, ◌∙◌, ℕ, ◌≤◌, map, subst, sym}
use Rattle.std.specs.Prelude.{All}
use Rattle.std.proofs.lemmas.Result.{IfOk-at_ok, err_from_is_err_and}
use Rattle.cover_law.specs.Areas.{row_area}
use Rattle.cover_law.specs.Cover.{bordered}
use Rattle.cover_law.specs.Rows.{AreRows}
use Rattle.rows.specs.Made.{row_of}
use Rattle.engine.specs.FaceBorders.{borders_in}
use Rattle.engine.specs.FaceRows.{AreFaceSets}
use Rattle.engine.proofs.BordersOf.{edges_over}
use Rattle.engine.proofs.BoundedRows.{has_many, wants_memory}
use Rattle.engine.proofs.bounded_rows.bounded_rows_alone.Goals as goal

pub face_sets_alone-requires-clause-borders : goal.face_sets_alone-requires-clause-borders
face_sets_alone-requires-clause-borders g c = rw (c.deref.ensures.value, c.deref-2.ensures.value) c.requires.borders

pub face_sets_alone-requires-clause-some : goal.face_sets_alone-requires-clause-some
face_sets_alone-requires-clause-some g c = rw (c.deref.ensures.value, c.deref-2.ensures.value) c.requires.some

pub face_sets_alone-requires-clause-inside : goal.face_sets_alone-requires-clause-inside
face_sets_alone-requires-clause-inside g c = rw (c.deref.ensures.value, c.deref-2.ensures.value) c.requires.inside

pub face_sets_alone-requires-clause-ordered : goal.face_sets_alone-requires-clause-ordered
face_sets_alone-requires-clause-ordered g c = rw (c.deref.ensures.value, c.deref-2.ensures.value) c.requires.ordered

pub face_sets_alone-requires-clause-below : goal.face_sets_alone-requires-clause-below
face_sets_alone-requires-clause-below g c = rw c.deref-2.ensures.value c.requires.below

pub returns-in_err-sets-clause-answer : goal.returns-in_err-sets-clause-answer
returns-in_err-sets-clause-answer g c = λ count below.
    let p = err_from_is_err_and c.from_residual.result c.from_residual.ensures.1 in
    rw (p.1, p.2) (wants_memory c.args.limit count (borders_in c.args.rounded.now) c.in_err-sets.field-0.0 c.in_err-sets.ensures)

pub ids-requires : goal.ids-requires
ids-requires g c =
    (IfOk-at_ok (λ s. AreFaceSets c.deref-2.result.now (map (bordered c.deref-2.result.now) c.deref.result.now) s.sets s.edges.edges.items s.edges.sets.items) c.in_ok-sets.ensures c.face_sets_alone.ensures).ready

pub returns-in_err-ids-clause-answer : goal.returns-in_err-ids-clause-answer
returns-in_err-ids-clause-answer g c = λ count below.
    let r = c.args.rounded.now in
    let p = err_from_is_err_and c.from_residual-in_err-ids.result c.from_residual-in_err-ids.ensures.1 in
    let sets = c.in_ok-sets.sets in
    let edges = edges_over r count sets.sets sets.edges.edges.items sets.edges.sets.items c.deref-2.result.now c.deref.result.now below c.deref-2.ensures.value c.deref.ensures.value
    (IfOk-at_ok (λ s. AreFaceSets c.deref-2.result.now (map (bordered c.deref-2.result.now) c.deref.result.now) s.sets s.edges.edges.items s.edges.sets.items) c.in_ok-sets.ensures c.face_sets_alone.ensures) in
    rw (p.1, p.2) (has_many c.args.limit count (borders_in r) c.in_err-ids.field-0.0 c.ids.result (c.ids.ensures.number count (borders_in r) edges) c.in_err-ids.ensures)

pub rows_alone-requires : goal.rows_alone-requires
rows_alone-requires g c =
    (IfOk-at_ok (λ s. AreFaceSets c.deref-2.result.now (map (bordered c.deref-2.result.now) c.deref.result.now) s.sets s.edges.edges.items s.edges.sets.items) c.in_ok-sets.ensures c.face_sets_alone.ensures).ready

pub returns-in_err-rows-clause-answer : goal.returns-in_err-rows-clause-answer
returns-in_err-rows-clause-answer g c = λ count below.
    let p = err_from_is_err_and c.from_residual-in_err-rows.result c.from_residual-in_err-rows.ensures.1 in
    rw (p.1, p.2) (wants_memory c.args.limit count (borders_in c.args.rounded.now) c.in_err-rows.field-0.0 c.in_err-rows.ensures)

pub returns-clause-answer : goal.returns-clause-answer
returns-clause-answer g c = λ count below.
    let r = c.args.rounded.now in
    let sets = c.in_ok-sets.sets in
    let edges = edges_over r count sets.sets sets.edges.edges.items sets.edges.sets.items c.deref-2.result.now c.deref.result.now below c.deref-2.ensures.value c.deref.ensures.value
    (IfOk-at_ok (λ s. AreFaceSets c.deref-2.result.now (map (bordered c.deref-2.result.now) c.deref.result.now) s.sets s.edges.edges.items s.edges.sets.items) c.in_ok-sets.ensures c.face_sets_alone.ensures) in
    let rows = IfOk-at_ok (λ rs. AreRows count (borders_in r) (map row_of rs.items)) c.in_ok-rows.ensures (c.rows_alone.ensures.rows count (borders_in r) c.requires.borders edges) in
    let few = c.in_ok-ids.ensures in
    record {
      rows = rows;
      ids = few.0 ∙ c.ids.ensures.rows count (borders_in r) (map row_of c.in_ok-rows.rows.items) edges rows;
      few = subst (λ (n : ℕ). n ≤ c.args.limit) (sym few.0) few.1;
    }

pub returns-clause-areas : goal.returns-clause-areas
returns-clause-areas g c = IfOk-at_ok (λ rs. All (λ r. r.twice_area ≡ row_area (row_of r)) rs.items) c.in_ok-rows.ensures c.rows_alone.ensures.areas
