use Rattle.std.proofs.Common.{◌≡◌, ℕ, ◌<◌, ◌≤◌, List, ◌++◌, drop, length, map, take, sym, ap, ◌∙◌, subst}
use Rattle.std.specs.Prelude.{slice_range}
use Rattle.std.specs.List.{All, AllPairs, Contains}
use Rattle.std.specs.declared.vec.Vec.{Vec}
use Rattle.geom.specs.Order.{IsUpTo}
use Rattle.label_sweep.specs.declared.standing.StandingEdge.{StandingEdge}
use Rattle.label_sweep.specs.declared.status.Place.{Place}
use Rattle.label_sweep.specs.Chunks.{joined, number_of}
use Rattle.label_sweep.specs.Slots.{in_slot}
use Rattle.label_sweep.proofs.Slots.{front_inside, given_apart, given_inside, left_hold, now_all, now_apart, now_inside, now_standing, part_inside, part_of_map}
use Rattle.label_sweep.proofs.status.Status.replace.Goals as goal

-- what is listed of a slice is listed of the chunks that it has
listed : {A : Type 0} (chunks slice : List (Vec ℕ A)) (low high : Place) (numbers : List ℕ) → slice ≡ chunks
    → (low.chunk ≤ high.chunk → number_of slice low ≤ number_of slice high → numbers ≡ slice_range (joined slice) (number_of slice low) (number_of slice high))
    → low.chunk ≤ high.chunk → number_of chunks low ≤ number_of chunks high → numbers ≡ slice_range (joined chunks) (number_of chunks low) (number_of chunks high)
listed {A} chunks slice low high numbers same of_slice =
    let P : List (Vec ℕ A) → Type 0 = λ t. low.chunk ≤ high.chunk → number_of t low ≤ number_of t high → numbers ≡ slice_range (joined t) (number_of t low) (number_of t high) in
    subst P same of_slice

pub returns-clause-ended : goal.returns-clause-ended
returns-clause-ended g c kept order far =
    let status = c.args.self.now in
    let slots : List StandingEdge = status.slots.items in
    let ns : List ℕ = joined status.chunks.items in
    let m : ℕ = number_of status.chunks.items c.args.low in
    let n : ℕ = number_of status.chunks.items c.args.high in
    let rest : c.list_between.new.numbers.items ≡ slice_range ns m n = listed status.chunks.items c.deref.result.now c.args.low c.args.high c.list_between.new.numbers.items c.deref.ensures.value c.in_ok-list_between.ensures order far in
    let E : List StandingEdge → List ℕ → Type 0 = λ s t. All (λ i. i < length s) t → c.list_edges.new.edges.items ≡ map (in_slot s) t in
    let of_part : E slots (slice_range ns m n) = subst (E slots) (c.deref-3.ensures.value ∙ rest) (subst (λ (s : List StandingEdge). E s c.deref-3.result.now) c.deref-2.ensures.value c.in_ok-list_edges.ensures) in
    of_part (part_inside ns m n (length slots) (front_inside ns status.free.items (length slots) kept.inside)) ∙ sym (part_of_map (in_slot slots) ns m n)

pub returns-clause-all : goal.returns-clause-all
returns-clause-all g c kept order far =
    let status = c.args.self.now in
    let old : List StandingEdge = status.slots.items in
    let new : List StandingEdge = c.seat.new.slots.items in
    let ns : List ℕ = joined status.chunks.items in
    let free : List ℕ = status.free.items in
    let given : List ℕ = c.extend_from_slice.new.self.items in
    let seated : List ℕ = c.seat.new.seated.items in
    let m : ℕ = number_of status.chunks.items c.args.low in
    let n : ℕ = number_of status.chunks.items c.args.high in
    let rest : c.list_between.new.numbers.items ≡ slice_range ns m n = listed status.chunks.items c.deref.result.now c.args.low c.args.high c.list_between.new.numbers.items c.deref.ensures.value c.in_ok-list_between.ensures order far in
    let freed : given ≡ free ++ slice_range ns m n = c.in_ok-extend_from_slice.ensures.items ∙ ap (λ t. free ++ t) (c.deref-4.ensures.value ∙ rest) in
    let seats = c.in_ok-seat.ensures in
    let edges = seats.edges (given_inside old ns free given m n far kept.inside kept.apart freed) (given_apart old ns free given m n far kept.inside kept.apart freed) in
    let renewed : joined c.replace_between.new.chunks.items ≡ take m ns ++ seated ++ drop n ns = c.in_ok-replace_between.ensures.all order ∙ ap (λ t. take m ns ++ t ++ drop n ns) c.deref-5.ensures.value in
    ap (map (in_slot new)) renewed ∙ now_standing old ns free given m n far kept.inside kept.apart freed new seated c.seat.new.free.items seats.grown seats.taken seats.others c.args.fresh.now edges

pub returns-clause-kept : goal.returns-clause-kept
returns-clause-kept g c kept low order far =
    let status = c.args.self.now in
    let old : List StandingEdge = status.slots.items in
    let new : List StandingEdge = c.seat.new.slots.items in
    let ns : List ℕ = joined status.chunks.items in
    let free : List ℕ = status.free.items in
    let left : List ℕ = c.seat.new.free.items in
    let given : List ℕ = c.extend_from_slice.new.self.items in
    let seated : List ℕ = c.seat.new.seated.items in
    let m : ℕ = number_of status.chunks.items c.args.low in
    let n : ℕ = number_of status.chunks.items c.args.high in
    let rest : c.list_between.new.numbers.items ≡ slice_range ns m n = listed status.chunks.items c.deref.result.now c.args.low c.args.high c.list_between.new.numbers.items c.deref.ensures.value c.in_ok-list_between.ensures order far in
    let freed : given ≡ free ++ slice_range ns m n = c.in_ok-extend_from_slice.ensures.items ∙ ap (λ t. free ++ t) (c.deref-4.ensures.value ∙ rest) in
    let seats = c.in_ok-seat.ensures in
    let renewed : take m ns ++ seated ++ drop n ns ≡ joined c.replace_between.new.chunks.items = sym (c.in_ok-replace_between.ensures.all order ∙ ap (λ t. take m ns ++ t ++ drop n ns) c.deref-5.ensures.value) in
    let I : List ℕ → Type 0 = λ t. All (λ i. i < length new) (t ++ left) in
    let D : List ℕ → Type 0 = λ t. AllPairs (λ i j. ¬ (i ≡ j)) (t ++ left) in
    let C : List ℕ → Type 0 = λ t. (i : ℕ) → i < length new → Contains (t ++ left) i in
    record {
      chunked = c.in_ok-replace_between.ensures.chunked kept.chunked low order;
      inside = subst I renewed (now_inside old ns free given m n far kept.inside kept.apart freed new seated left seats.grown seats.taken seats.others);
      apart = subst D renewed (now_apart old ns free given m n far kept.inside kept.apart freed new seated left seats.grown seats.taken seats.others);
      all = subst C renewed (now_all old ns free given m n far kept.inside kept.apart freed new seated left seats.grown seats.taken seats.others kept.all);
    }

pub returns-clause-free : goal.returns-clause-free
returns-clause-free g c v kept order far ended part_ended =
    let status = c.args.self.now in
    let old : List StandingEdge = status.slots.items in
    let ns : List ℕ = joined status.chunks.items in
    let free : List ℕ = status.free.items in
    let given : List ℕ = c.extend_from_slice.new.self.items in
    let m : ℕ = number_of status.chunks.items c.args.low in
    let n : ℕ = number_of status.chunks.items c.args.high in
    let rest : c.list_between.new.numbers.items ≡ slice_range ns m n = listed status.chunks.items c.deref.result.now c.args.low c.args.high c.list_between.new.numbers.items c.deref.ensures.value c.in_ok-list_between.ensures order far in
    let freed : given ≡ free ++ slice_range ns m n = c.in_ok-extend_from_slice.ensures.items ∙ ap (λ t. free ++ t) (c.deref-4.ensures.value ∙ rest) in
    let seats = c.in_ok-seat.ensures in
    left_hold old ns free given m n far kept.inside kept.apart freed c.seat.new.slots.items c.seat.new.seated.items c.seat.new.free.items seats.grown seats.taken seats.others (λ s. IsUpTo s.spoke.one.edge.q v) seats.left ended part_ended
