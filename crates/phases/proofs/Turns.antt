-- Strips in turn, from the last one to the first.
use Rattle.std.proofs.Common.{◌≡◌, ℕ, suc, ◌+◌, ◌-◌, ◌<◌, List, [], ◌∷◌, ◌++◌, sym, ap, ◌∙◌, subst, arith, inl, inr, length, get_or, flat_map, ⊎_elim}
use Rattle.std.specs.Prelude.{All, Some, ℤ, reverse, slice_get}
use Rattle.std.proofs.lemmas.Bool.{cases_lt}
use Rattle.std.proofs.lemmas.List.{get_or-reverse, get_or_append_left, get_or_push, length-map, length-reverse, length_push, map-append}
use Rattle.std.proofs.lemmas.List.Elements.{All-cons, All-filter, All-nil}
use Rattle.std.proofs.lemmas.List.Kept.{AllPairs-filter}
use Rattle.std.proofs.lemmas.Option.{get_or_from_slice_get, slice_get-get_or, slice_get_within}
use Rattle.geom.specs.declared.point.Pt.{Pt}
use Rattle.geom.specs.declared.edge.Counted.{Counted}
use Rattle.geom.specs.declared.segment.Seg.{Seg}
use Rattle.geom.specs.Limit.{AreInLimit}
use Rattle.geom.specs.Order.{IsBefore}
use Rattle.geom.specs.Rounded.{AreRounded}
use Rattle.strips_law.specs.declared.line.Line.{Line}
use Rattle.strips_law.specs.declared.line.Carried.{Carried}
use Rattle.strips_law.specs.Strips.{AreCarried, AreEdgesOf, AreLinesFrom, AreOrdered, IsOriented, lines_in, reaches}
use Rattle.strips_law.proofs.Last.{last_strip}
use Rattle.strips_law.proofs.Rounded.{strips_rounded}
use Rattle.std.specs.declared.vec.Vec.{Vec}
use Rattle.phases.specs.Merged.{AreFound}
use Rattle.phases.specs.Scattered as scattered

-- the lines that reach a strip are in order as all are
pub near_ordered : (cuts : List ℤ) (strip : ℕ) (lines : List Line) → AreOrdered lines → AreOrdered (lines_in cuts strip lines)
near_ordered cuts strip lines h = record {
  oriented = All-filter (λ (l : Line). reaches cuts strip l.segment) (λ (l : Line). IsBefore l.segment.a l.segment.b) lines h.oriented;
  ascending = AllPairs-filter (λ (l m : Line). l.number < m.number) (λ (l : Line). reaches cuts strip l.segment) lines h.ascending;
}

-- and within the limit
pub near_limited : (cuts : List ℤ) (strip : ℕ) (lines : List Line) → All (λ l. AreInLimit l.segment.a l.segment.b) lines → All (λ l. AreInLimit l.segment.a l.segment.b) (lines_in cuts strip lines)
near_limited cuts strip lines h = All-filter (λ (l : Line). reaches cuts strip l.segment) (λ (l : Line). AreInLimit l.segment.a l.segment.b) lines h

turned_limited : (s t : Seg) → IsOriented s t → AreInLimit s.a s.b → AreInLimit t.a t.b
turned_limited s t o h = ⊎_elim
    (λ e. subst (λ (p : Pt × Pt). AreInLimit p.0 p.1) (λ i. (sym e.0 i, sym e.1 i)) h)
    (λ e. subst (λ (p : Pt × Pt). AreInLimit p.0 p.1) (λ i. (sym e.0 i, sym e.1 i)) (record { a_in = h.b_in; b_in = h.a_in }))
    o.ends

pub lines_limited : (k : ℕ) (segments : List Seg) (lines : List Line) → AreLinesFrom k segments lines → All (λ s. AreInLimit s.a s.b) segments → All (λ l. AreInLimit l.segment.a l.segment.b) lines
lines_limited k [] [] are h = All-nil (λ (l : Line). AreInLimit l.segment.a l.segment.b)
lines_limited k [] (l ∷ ls) are h = absurd are
lines_limited k (s ∷ ss) [] are h = absurd are
lines_limited k (s ∷ ss) (l ∷ ls) are h = All-cons (λ (l : Line). AreInLimit l.segment.a l.segment.b) l ls (turned_limited s l.segment are.1 (h 0 s (omega arith))) (lines_limited (k + 1) ss ls are.2 (λ n e q. h (suc n) e (omega (arith, q))))

-- no strip is found yet
pub none_found : (cuts : List ℤ) (lines : List Line) → AreFound cuts lines (length cuts + 1) [] []
none_found cuts lines = record { one_each = omega arith; each = λ k edges at. let w = slice_get_within [] k edges at in absurd (omega (arith, w)); carried_are = last_strip cuts lines }

-- one strip more
pub found_more : (cuts : List ℤ) (lines : List Line) (strip : ℕ) (lists : List (List Counted)) (carried next : List Carried) (edges : List Counted) → AreFound cuts lines (strip + 1) lists carried → AreEdgesOf cuts strip lines edges → AreCarried cuts strip lines next
    → AreFound cuts lines strip (lists ++ edges ∷ []) next
found_more cuts lines strip lists carried next edges h here goes = record {
  one_each = let n = h.one_each in let p = length_push lists edges in omega (arith, n, p);
  each = each;
  carried_are = goes;
}
  where
    each : (k : ℕ) (es : List Counted) → slice_get (lists ++ edges ∷ []) k ≡ Some es → AreEdgesOf cuts (length cuts - k) lines es
    each k es at = elim (cases_lt k (length lists)) [
      | inl old ↦ h.each k es (slice_get-get_or lists k es old ∙ ap Some (sym (get_or_append_left lists (edges ∷ []) es k old) ∙ get_or_from_slice_get (lists ++ edges ∷ []) k es es at))
      | inr last ↦
          let w = slice_get_within (lists ++ edges ∷ []) k es at in
          let p = length_push lists edges in
          let n = h.one_each in
          let e : length lists ≡ k = omega (arith, w, p, last) in
          let s : strip ≡ length cuts - k = omega (arith, e, n) in
          let f : edges ≡ es = sym (get_or_push lists edges es k e) ∙ get_or_from_slice_get (lists ++ edges ∷ []) k es es at in
          subst (λ (j : ℕ). AreEdgesOf cuts j lines es) s (subst (λ (xs : List Counted). AreEdgesOf cuts strip lines xs) f here)
    ]

-- all strips, from the first one on
pub all_found : (cuts : List ℤ) (segments : List Seg) (lines : List Line) (lists : List (List Counted)) (carried : List Carried) → AreLinesFrom 0 segments lines → AreFound cuts lines 0 lists carried → AreRounded segments (flat_map (λ l. l) (reverse lists))
all_found cuts segments lines lists carried are h = strips_rounded cuts segments lines (reverse lists) are (length-reverse lists ∙ size) each
  where
    size : length lists ≡ length cuts + 1
    size = let n = h.one_each in omega (arith, n)

    each : (strip : ℕ) (edges : List Counted) → slice_get (reverse lists) strip ≡ Some edges → AreEdgesOf cuts strip lines edges
    each strip edges at =
        let w = slice_get_within (reverse lists) strip edges at in
        let r = length-reverse lists in
        let inside : strip < length lists = omega (arith, w, r) in
        let place = length lists - 1 - strip in
        let back : length cuts - place ≡ strip = let s = size in omega (arith, inside, s) in
        let is : get_or lists place edges ≡ edges = sym (get_or-reverse lists strip edges inside) ∙ get_or_from_slice_get (reverse lists) strip edges edges at in
        subst (λ (j : ℕ). AreEdgesOf cuts j lines edges) back (h.each place edges (slice_get-get_or lists place edges (omega (arith, inside)) ∙ ap Some is))

-- the last list is that of the last strip
module _ {A : Type 0} (cuts : List ℤ) (all : List Line) (lists rest : List (Vec Line A)) (last : Vec Line A) (is : lists ≡ rest ++ last ∷ []) (h : (k : ℕ) → k < length lists → get_or (scattered.lists_of lists) k [] ≡ lines_in cuts k all) where
  parted : scattered.lists_of lists ≡ scattered.lists_of rest ++ last.items ∷ []
  parted = ap scattered.lists_of is ∙ map-append (λ (v : Vec Line A). v.items) rest (last ∷ [])

  longer : length lists ≡ length rest + 1
  longer = ap length is ∙ length_push rest last

  size : length (scattered.lists_of rest) ≡ length rest
  size = length-map rest (λ (v : Vec Line A). v.items)

  pub last_lines : last.items ≡ lines_in cuts (length rest) all
  last_lines = sym (get_or_push (scattered.lists_of rest) last.items [] (length rest) size) ∙ ap (λ (ls : List (List Line)). get_or ls (length rest) []) (sym parted) ∙ h (length rest) (let l = longer in omega (arith, l))

  pub rest_lines : (k : ℕ) → k < length rest → get_or (scattered.lists_of rest) k [] ≡ lines_in cuts k all
  rest_lines k l = sym (get_or_append_left (scattered.lists_of rest) (last.items ∷ []) [] k (let s = size in omega (arith, l, s))) ∙ ap (λ (ls : List (List Line)). get_or ls k []) (sym parted) ∙ h k (let m = longer in omega (arith, l, m))
