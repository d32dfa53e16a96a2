use Rattle.std.proofs.Common.{rules, ◌≡◌, ◌-◌, ◌<◌, ◌≤◌, ℕ, Bool, true, false, int_le, List, drop, length, map, take, sym, ap, ◌∙◌, subst}
use Rattle.std.specs.List.{All}
use Rattle.std.specs.List.Sorted.{IsPartitionedBy, IsPartitionPoint}
use Rattle.std.proofs.lemmas.List.Elements.{at_read}
use Rattle.std.proofs.lemmas.List.Sorted.{IsPartitionPoint-from_clause}
use Rattle.std.specs.declared.vec.Vec.{Vec}
use Rattle.geom.specs.Determinant.{side}
use Rattle.geom.proofs.Tests.{le_told, le_untold}
use Rattle.label_sweep.specs.declared.standing.StandingEdge.{StandingEdge}
use Rattle.label_sweep.specs.Chunks.{joined, opens}
use Rattle.label_sweep.specs.Slots.{in_slot, passes}
use Rattle.label_sweep.proofs.Chunks.{chunks_parted, slice_from, within_parted}
use Rattle.label_sweep.proofs.Places.{IsFound, chunk_inside, found}
use Rattle.label_sweep.proofs.Slots.{between_edges, front_inside, numbers_parted}
use Rattle.label_sweep.proofs.status.Status.place.Goals as goal

pub returns-clause-inside : goal.returns-clause-inside
returns-clause-inside g c =
    let chunks = c.args.self.now.chunks.items in
    let k = c.partition_point-chunk.result in
    let w = c.partition_point-within.result in
    let row = take (length c.deref.result.now - 1) (drop 1 c.deref.result.now) in
    let same : row ≡ drop 1 chunks = slice_from 1 c.deref.result.now ∙ ap (λ t. drop 1 t) c.deref.ensures.value in
    let R : List (Vec ℕ g.row.A.Denot) → Type 0 = λ t. k ≤ length t in
    let h : k < length chunks = chunk_inside chunks k c.requires.some (subst R same c.partition_point-chunk.ensures.bound) in
    record {
      chunk = h;
      within = at_read chunks (λ (d : Vec ℕ g.row.A.Denot). w ≤ length d.items) k c.index.result.now h c.index.ensures (rw c.deref-2.ensures.value at c.partition_point-within.ensures.bound);
    }

pub returns-clause-between : goal.returns-clause-between
returns-clause-between g c kept standing =
    let edge : StandingEdge → Bool = λ s. int_le c.args.bound (side s.spoke.one.edge.p s.spoke.one.edge.q c.args.v) in
    let slots : List StandingEdge = c.as_slice-slots.result.now in
    let p : ℕ → Bool = passes edge slots in
    let chunks = c.args.self.now.chunks.items in
    let I : List StandingEdge → Type 0 = λ t. All (λ i. i < length t) (joined chunks) in
    let S : List StandingEdge → Type 0 = λ t. IsPartitionedBy edge (map (in_slot t) (joined chunks)) in
    let inside = subst I (sym c.as_slice-slots.ensures.value) (front_inside (joined chunks) c.args.self.now.free.items (length c.args.self.now.slots.items) kept.inside) in
    let parted : IsPartitionedBy p (joined chunks) = numbers_parted edge slots (joined chunks) inside (subst S (sym c.as_slice-slots.ensures.value) standing) in
    let k = c.partition_point-chunk.result in
    let w = c.partition_point-within.result in
    let q : Vec ℕ g.row.A.Denot → Bool = λ d. opens p d.items in
    let row = take (length c.deref.result.now - 1) (drop 1 c.deref.result.now) in
    let same : row ≡ drop 1 chunks = slice_from 1 c.deref.result.now ∙ ap (λ t. drop 1 t) c.deref.ensures.value in
    let P : List (Vec ℕ g.row.A.Denot) → Type 0 = λ t. IsPartitionedBy q t in
    let Q : List (Vec ℕ g.row.A.Denot) → Type 0 = λ t. IsPartitionPoint (λ y. q y ≡ true) (λ y. q y ≡ false) t k in
    let R : List (Vec ℕ g.row.A.Denot) → Type 0 = λ t. k ≤ length t in
    let of_chunks = subst Q same (IsPartitionPoint-from_clause q row k c.partition_point-chunk.ensures.partitioned
    (subst P (sym same) (chunks_parted (λ (d : Vec ℕ g.row.A.Denot). d.items) p chunks parted kept.chunked.filled)) (λ a r f k. search rules)) in
    let h : k < length chunks = chunk_inside chunks k c.requires.some (subst R same c.partition_point-chunk.ensures.bound) in
    let here = c.index.result.now in
    let of_edges = IsPartitionPoint-from_clause p c.deref-2.result.now w c.partition_point-within.ensures.partitioned
    (rw c.deref-2.ensures.value (within_parted (λ (d : Vec ℕ g.row.A.Denot). d.items) p chunks parted kept.chunked.filled k here h c.index.ensures)) (λ a r f k. search rules) in
    let F : List StandingEdge → Type 0 = λ t. IsFound (passes edge t) chunks (record { chunk = k; within = w }) in
    let all = between_edges edge c.args.self.now (record { chunk = k; within = w }) kept (subst F c.as_slice-slots.ensures.value (found p chunks parted kept.chunked k w here h c.index.ensures of_chunks.0 of_chunks.1
    (rw c.deref-2.ensures.value at c.partition_point-within.ensures.bound) (rw c.deref-2.ensures.value at of_edges.0) (rw c.deref-2.ensures.value at of_edges.1))) in
    record {
      place = all.place;
      within = all.within;
      before = λ i d l m. le_told _ _ (all.before i d l m);
      behind = λ i d l m. le_untold _ _ (all.behind i d l m);
    }
