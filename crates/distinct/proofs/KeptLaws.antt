-- What is kept of segments, and more of it.
use Rattle.std.proofs.Common.{◌≡◌, ℕ, zero, suc, ◌+◌, ◌*◌, ◌<◌, List, [], ◌∷◌, ◌++◌, Bool, true, false, cond, refl, sym, ◌∙◌, ap, arith, subst, length, get_or, take, drop, append_assoc, ⊎_elim, flat_map, length-append, map, Option, Some, IfSome}
use Rattle.std.proofs.Math.ListN.{set, length-set}
use Rattle.std.specs.List.{AllZip}
use Rattle.std.specs.Prelude.{slice_range}
use Rattle.std.proofs.lemmas.List.{append-nil, drop_all, drop-set-lt, get_or-drop, length-drop, take_more, take_more_set}
use Rattle.std.proofs.lemmas.Grind.{drop_more_same}
use Rattle.std.proofs.lemmas.List.Folds.{drop_split}
use Rattle.std.proofs.lemmas.List.Elements.{Contains-append_cases, Contains-append_left, Contains-append_right}
use Rattle.std.proofs.lemmas.List.Sums.{sum_by-append, sum_by_push}
use Rattle.geom.specs.declared.segment.Source.{Source}
use Rattle.geom.specs.declared.segment.Source.TheVariants.{A, B}
use Rattle.geom.specs.declared.segment.Seg.{Seg}
use Rattle.geom.specs.Segments.{same_source}
use Rattle.hands.specs.declared.part.Part.{Part}
use Rattle.hands.specs.Consecutive.{ArePartsOf}
use Rattle.distinct.specs.Copies.{AreCopies, HaveSameEnds, copies_in, sum_of_copies}
use Rattle.distinct.specs.Kept.{AreKeptOf}
use Rattle.distinct.specs.declared.copies.Copies.{Copies}

-- how much a segment of a layer counts in a layer
abbrev pub one_of : Source → Source → ℕ
one_of layer other = cond (same_source layer other) 1 0

times_one : (b : Bool) (n : ℕ) → cond b n 0 ≡ cond b 1 0 * n
times_one true n = omega arith
times_one false n = omega arith

-- ---- sums
module _ (layer : Source) (number : Seg → ℕ) where
  sum_append : (ks ls : List Seg) (cs ds : List Copies) → length cs ≡ length ks → sum_of_copies layer number (ks ++ ls) (cs ++ ds) ≡ sum_of_copies layer number ks cs + sum_of_copies layer number ls ds
  sum_append [] ls [] ds e = omega arith
  sum_append [] ls (c ∷ cs) ds e = absurd (omega arith)
  sum_append (k ∷ ks) ls [] ds e = absurd (omega arith)
  sum_append (k ∷ ks) ls (c ∷ cs) ds e = let h = sum_append ks ls cs ds (omega arith) in omega (arith, h)

  -- the copies at a place are so many more
  sum_set : (ks : List Seg) (cs : List Copies) (place : ℕ) (s : Seg) (c more : Copies) (n : ℕ) → length cs ≡ length ks → place < length ks → c ≡ get_or cs place c → copies_in layer more ≡ copies_in layer c + n
      → sum_of_copies layer number ks (set cs place more) ≡ sum_of_copies layer number ks cs + n * number (get_or ks place s)
  sum_set [] cs place s c more n e l is grown = absurd (omega arith)
  sum_set (k ∷ ks) [] place s c more n e l is grown = absurd (omega arith)
  sum_set (k ∷ ks) (d ∷ cs) zero s c more n e l is grown = let a : copies_in layer more ≡ copies_in layer d + n = grown ∙ ap (λ (x : Copies). copies_in layer x + n) is in let b = ap (λ (m : ℕ). m * number k) a in omega (arith, b)
  sum_set (k ∷ ks) (d ∷ cs) (suc place) s c more n e l is grown = let h = sum_set ks cs place s c more n (omega arith) (omega arith) is grown in omega (arith, h)

-- ---- lists behind one another
pub copies_none : AreCopies [] [] []
copies_none = record {
  one_each = refl;
  among = λ s k. k;
  as_many = λ layer number h. refl;
}

module _ (xs ys ks ls : List Seg) (cs ds : List Copies) (front : AreCopies xs ks cs) (back : AreCopies ys ls ds) where
  pub copies_append : AreCopies (xs ++ ys) (ks ++ ls) (cs ++ ds)
  copies_append = record {
    one_each = let a = length-append cs ds in let b = length-append ks ls in let c = front.one_each in let d = back.one_each in omega arith;
    among = λ s k. ⊎_elim (λ i. Contains-append_left xs ys s (front.among s i)) (λ i. Contains-append_right xs ys s (back.among s i)) (Contains-append_cases ks ls s k);
    as_many = λ layer number h.
        let a = sum_by-append (λ s. cond (same_source s.layer layer) (number s) 0) xs ys in
        let b = sum_append layer number ks ls cs ds front.one_each in
        let c = front.as_many layer number h in
        let d = back.as_many layer number h in
        omega arith;
  }

-- what is kept of parts that follow one another
pub copies_flat : {P V : Type 0} (part_of : P → List Seg) (kept_of : V → List Seg) (copies_of : V → List Copies) (ps : List P) (vs : List V) → AllZip (λ p v. AreCopies (part_of p) (kept_of v) (copies_of v)) ps vs → AreCopies (flat_map part_of ps) (flat_map kept_of vs) (flat_map copies_of vs)
copies_flat part_of kept_of copies_of [] [] h = copies_none
copies_flat part_of kept_of copies_of [] (v ∷ vs) h = absurd h
copies_flat part_of kept_of copies_of (p ∷ ps) [] h = absurd h
copies_flat part_of kept_of copies_of (p ∷ ps) (v ∷ vs) h =
    copies_append (part_of p) (flat_map part_of ps) (kept_of v) (flat_map kept_of vs) (copies_of v) (flat_map copies_of vs) h.0 (copies_flat part_of kept_of copies_of ps vs h.1)

module _ (segments : List Seg) where
  abbrev pub part_of : Part → List Seg
  part_of p = slice_range segments p.from p.past

  parts_from : (from past : ℕ) (ps : List Part) → ArePartsOf from past ps → flat_map part_of ps ++ drop past segments ≡ drop from segments
  unfolding ArePartsOf
  parts_from from past [] h = ap (λ (n : ℕ). drop n segments) (sym h)
  parts_from from past (p ∷ ps) h =
      append_assoc (part_of p) (flat_map part_of ps) (drop past segments) ∙ ap (λ (t : List Seg). part_of p ++ t) (parts_from p.past past ps h.2)
      ∙ ap (λ (n : ℕ). slice_range segments n p.past ++ drop p.past segments) h.0 ∙ sym (drop_split segments from p.past h.1)

  parts_whole : (ps : List Part) → ArePartsOf 0 (length segments) ps → flat_map part_of ps ≡ segments
  parts_whole ps h = sym (append-nil (flat_map part_of ps)) ∙ ap (λ (t : List Seg). flat_map part_of ps ++ t) (sym (drop_all (length segments) segments (omega arith))) ∙ parts_from 0 (length segments) ps h

  -- what is kept of the parts of all
  pub copies_whole : {V : Type 0} (kept_of : V → List Seg) (copies_of : V → List Copies) (ps : List Part) (vs : List V) (ks : List Seg) (cs : List Copies) → ArePartsOf 0 (length segments) ps
      → AllZip (λ p v. AreCopies (part_of p) (kept_of v) (copies_of v)) ps vs → ks ≡ flat_map kept_of vs → cs ≡ flat_map copies_of vs → AreCopies segments ks cs
  copies_whole kept_of copies_of ps vs ks cs parts h kept copies =
      subst (λ (x : List Seg × List Seg × List Copies). AreCopies x.0 x.1 x.2) (λ i. (parts_whole ps parts i, sym kept i, sym copies i)) (copies_flat part_of kept_of copies_of ps vs h)

-- ---- one segment more
module _ (s : Seg) where
  -- by itself
  copies_one : (c : Copies) → ((layer : Source) → copies_in layer c ≡ one_of s.layer layer) → AreCopies (s ∷ []) (s ∷ []) (c ∷ [])
  copies_one c counts = record {
    one_each = refl;
    among = λ t k. k;
    as_many = λ layer number h.
        let a = times_one (same_source s.layer layer) (number s) in
        let b = ap (λ (n : ℕ). n * number s) (counts layer) in
        omega arith;
  }

  pub copies_push : (xs ks : List Seg) (cs : List Copies) (c : Copies) → c.in_a ≡ one_of s.layer A → c.in_b ≡ one_of s.layer B → AreCopies xs ks cs → AreCopies (xs ++ s ∷ []) (ks ++ s ∷ []) (cs ++ c ∷ [])
  copies_push xs ks cs c in_a in_b h = copies_append xs (s ∷ []) ks (s ∷ []) cs (c ∷ []) h (copies_one c counts)
    where
      counts : (layer : Source) → copies_in layer c ≡ one_of s.layer layer
      counts A = in_a
      counts B = in_b

  -- as a copy of one with the same ends
  pub copies_add : (xs ks : List Seg) (cs : List Copies) (place : ℕ) (k : Seg) (c more : Copies) → place < length ks → k ≡ get_or ks place k → c ≡ get_or cs place c → HaveSameEnds k s
      → more.in_a ≡ c.in_a + one_of s.layer A → more.in_b ≡ c.in_b + one_of s.layer B → AreCopies xs ks cs → AreCopies (xs ++ s ∷ []) ks (set cs place more)
  copies_add xs ks cs place k c more below kept is same in_a in_b h = record {
    one_each = length-set cs place more ∙ h.one_each;
    among = λ t i. Contains-append_left xs (s ∷ []) t (h.among t i);
    as_many = λ layer number ends.
        let a = sum_by_push (λ t. cond (same_source t.layer layer) (number t) 0) xs s in
        let b = sum_set layer number ks cs place k c more (one_of s.layer layer) h.one_each below is (grown layer) in
        let e = h.as_many layer number ends in
        let f = times_one (same_source s.layer layer) (number s) in
        let n : number s ≡ number (get_or ks place k) = sym (ends k s same) ∙ ap number kept in
        let g = ap (λ (m : ℕ). one_of s.layer layer * m) n in
        omega arith;
  }
    where
      grown : (layer : Source) → copies_in layer more ≡ copies_in layer c + one_of s.layer layer
      grown A = in_a
      grown B = in_b

-- ---- a list that is gone through, whose kept segments stand in its first places
module _ (all segments : List Seg) (place : ℕ) (copies : List Copies) (s : Seg) (within : place < length segments) (is : s ≡ get_or segments place s) (h : AreKeptOf all place segments copies) where
  one_more : take (place + 1) all ≡ take place all ++ s ∷ []
  one_more = take_more all place s below ∙ ap (λ (t : Seg). take place all ++ t ∷ []) (sym same)
    where
      below : place < length all
      below = let a = length-drop place segments in let b = length-drop place all in let e = ap (λ (l : List Seg). length l) h.rest in omega arith

      here : place ≡ place + 0
      here = omega arith

      same : s ≡ get_or all place s
      same =
          is ∙ ap (λ (n : ℕ). get_or segments n s) here ∙ sym (get_or-drop place segments 0 s) ∙ ap (λ (l : List Seg). get_or l 0 s) h.rest ∙ get_or-drop place all 0 s
          ∙ ap (λ (n : ℕ). get_or all n s) (sym here)

  -- the segment at the place counts as a copy of a kept one
  pub kept_added : (more : List Copies) → length more ≡ length copies → AreCopies (take place all ++ s ∷ []) (take (length copies) segments) more → AreKeptOf all (place + 1) segments more
  kept_added more len added = record {
    few = let f = h.few in omega arith;
    kept = subst (λ (x : List Seg × ℕ). AreCopies x.0 (take x.1 segments) more) (λ i. (sym one_more i, sym len i)) added;
    rest = drop_more_same segments all place h.rest;
  }

  -- the segment at the place is kept
  pub kept_pushed : (c : Copies) → c.in_a ≡ one_of s.layer A → c.in_b ≡ one_of s.layer B → AreKeptOf all (place + 1) (set segments (length copies) s) (copies ++ c ∷ [])
  kept_pushed c in_a in_b = record {
    few = let f = h.few in omega (arith, len);
    kept = subst (λ (x : List Seg × List Seg). AreCopies x.0 x.1 (copies ++ c ∷ [])) (λ i. (sym one_more i, sym kept i)) (copies_push s (take place all) (take (length copies) segments) copies c in_a in_b h.kept);
    rest = drop-set-lt (place + 1) segments (length copies) s (let f = h.few in omega arith) ∙ drop_more_same segments all place h.rest;
  }
    where
      len : length (copies ++ c ∷ []) ≡ length copies + 1
      len = length-append copies (c ∷ [])

      kept : take (length (copies ++ c ∷ [])) (set segments (length copies) s) ≡ take (length copies) segments ++ s ∷ []
      kept = ap (λ (n : ℕ). take n (set segments (length copies) s)) len ∙ take_more_set segments (length copies) s (let f = h.few in omega arith)

-- ---- what is there for each part
pub zip_some : {P V : Type 0} (Holds : P → V → Type 0) (ps : List P) (vs : List V) → AllZip (λ p o. IfSome o (Holds p)) ps (map Some vs) → AllZip Holds ps vs
zip_some Holds [] [] h = h
zip_some Holds [] (v ∷ vs) h = absurd h
zip_some Holds (p ∷ ps) [] h = absurd h
zip_some Holds (p ∷ ps) (v ∷ vs) h = (h.0, zip_some Holds ps vs h.1)

module _ (segments : List Seg) where
  -- segments of which each is alone in its part, with the copies of the parts
  pub copies_alone : {V : Type 0} (copies_of : V → List Copies) (ps : List Part) (vs : List V) (found : List (Option V)) → ArePartsOf 0 (length segments) ps
      → AllZip (λ p o. IfSome o (λ v. AreCopies (part_of segments p) (part_of segments p) (copies_of v))) ps found → map Some vs ≡ found → AreCopies segments segments (flat_map copies_of vs)
  copies_alone {V} copies_of ps vs found parts h there = subst (λ (x : List Seg × List Seg). AreCopies x.0 x.1 (flat_map copies_of vs)) (λ i. (parts_whole segments ps parts i, parts_whole segments ps parts i))
      (flat_alone ps vs (zip_some (λ p v. AreCopies (part_of segments p) (part_of segments p) (copies_of v)) ps vs (subst (λ l. AllZip (λ p o. IfSome o (λ v. AreCopies (part_of segments p) (part_of segments p) (copies_of v))) ps l) (sym there) h)))
    where
      flat_alone : (ps : List Part) (vs : List V) → AllZip (λ p v. AreCopies (part_of segments p) (part_of segments p) (copies_of v)) ps vs → AreCopies (flat_map (part_of segments) ps) (flat_map (part_of segments) ps) (flat_map copies_of vs)
      flat_alone [] [] h = copies_none
      flat_alone [] (v ∷ vs) h = absurd h
      flat_alone (p ∷ ps) [] h = absurd h
      flat_alone (p ∷ ps) (v ∷ vs) h =
          copies_append (part_of segments p) (flat_map (part_of segments) ps) (part_of segments p) (flat_map (part_of segments) ps) (copies_of v) (flat_map copies_of vs) h.0 (flat_alone ps vs h.1)
