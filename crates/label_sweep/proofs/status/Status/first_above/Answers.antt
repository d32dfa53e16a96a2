use Rattle.std.proofs.Common.{◌≡◌, ℕ, ◌<◌, ◌≤◌, Bool, true, false, List, length, get_or, int_le, map, pos, arith, subst}
use Rattle.std.specs.List.{AllWithin, HoldsAt}
use Rattle.std.specs.declared.vec.Vec.{Vec}
use Rattle.std.proofs.lemmas.List.{length-map}
use Rattle.std.proofs.lemmas.List.Elements.{at_read}
use Rattle.geom.specs.Determinant.{side}
use Rattle.geom.proofs.Tests.{le_told, le_untold}
use Rattle.label_sweep.specs.declared.standing.StandingEdge.{StandingEdge}
use Rattle.label_sweep.specs.Chunks.{joined, number_of}
use Rattle.label_sweep.specs.Slots.{in_slot, passes}
use Rattle.label_sweep.proofs.Places.{below_level, found_from}
use Rattle.label_sweep.proofs.Slots.{between_edges, front_inside, numbers_parted, numbers_pass}
use Rattle.label_sweep.proofs.status.Status.first_above.Goals as goal

pub returns-then-within-len-clause-inside : goal.returns-then-within-len-clause-inside
returns-then-within-len-clause-inside g c =
    let here = c.index-chunk.result.now in
    let w = c.level_end-within.result in
    let ok = here.ok.0 in
    let l : w ≤ length here.items = omega (arith, c.if-within-len.true, c.len.ensures, ok) in
    record {
      chunk = c.requires.low.chunk;
      within = at_read c.args.self.now.chunks.items (λ (d : Vec ℕ g.row.A.Denot). w ≤ length d.items) c.args.low.chunk here c.requires.low.chunk c.index-chunk.ensures l;
    }

pub returns-then-within-len-clause-between : goal.returns-then-within-len-clause-between
returns-then-within-len-clause-between g c kept standing low =
    let p : StandingEdge → Bool = λ s. int_le (pos 0) (side s.spoke.one.edge.p s.spoke.one.edge.q c.args.v) in
    let status = c.args.self.now in
    let slots = status.slots.items in
    let chunks = status.chunks.items in
    let from : ℕ = number_of chunks c.args.low in
    let edges : List StandingEdge = map (in_slot slots) (joined chunks) in
    let inside = front_inside (joined chunks) status.free.items (length slots) kept.inside in
    let here = c.index-chunk.result.now in
    let w = c.level_end-within.result in
    let ok = here.ok.0 in
    let l : w < length here.items = omega (arith, c.if-within-len.true, c.len.ensures, ok) in
    let long = length-map (joined chunks) (in_slot slots) in
    let low_within = low.within in
    let P : List StandingEdge → List ℕ → Type 0 = λ s t. AllWithin (λ i. passes p s i ≡ true) t c.args.low.within w in
    let Q : List StandingEdge → List ℕ → Type 0 = λ s t. w < length t → HoldsAt (λ i. passes p s i ≡ false) t w in
    let level = subst (P slots) c.deref-2.ensures.value (subst (λ (s : List StandingEdge). P s c.deref-2.result.now) c.deref.ensures.value c.level_end-within.ensures.level) in
    let above = subst (Q slots) c.deref-2.ensures.value (subst (λ (s : List StandingEdge). Q s c.deref-2.result.now) c.deref.ensures.value c.level_end-within.ensures.above) in
    let before = numbers_pass p slots (joined chunks) inside true 0 from (omega (arith, low_within, long))
    (λ i d a b. below_level (side (get_or edges i d).spoke.one.edge.p (get_or edges i d).spoke.one.edge.q c.args.v) (low.before i d a b)) in
    let all = between_edges p status (record { chunk = c.args.low.chunk; within = w }) kept
    (found_from (passes p slots) chunks (numbers_parted p slots (joined chunks) inside standing) kept.chunked c.args.low low.place before here c.index-chunk.ensures w c.level_end-within.ensures.from l level (above l)) in
    record {
      place = all.place;
      within = all.within;
      before = λ i d a b. le_told _ _ (all.before i d a b);
      behind = λ i d a b. le_untold _ _ (all.behind i d a b);
    }
