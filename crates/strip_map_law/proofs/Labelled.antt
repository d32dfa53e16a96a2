-- The strips from the first one to the last have the directed edges of the result.
use Rattle.std.proofs.Common.{◌≡◌, ◌+◌, ◌++◌, ◌∷◌, ◌∙◌, [], ℕ, zero, suc, List, ap, arith, filter, flat_map, map, refl, slice_get, Some, subst, sym}
use Rattle.std.specs.List.{AllZip}
use Rattle.std.specs.Prelude.{◌↔◌, Contains}
use Rattle.std.proofs.Math.IntN.{ℤ}
use Rattle.std.proofs.lemmas.List.Elements.{filter-append}
use Rattle.geom.specs.declared.op.Op.{Op}
use Rattle.geom.specs.declared.edge.Counted.{Counted}
use Rattle.geom.specs.declared.directed.DirectedEdge.{DirectedEdge}
use Rattle.geom.specs.Directed.{AreResultEdges}
use Rattle.geom.proofs.Lists.{some_same}
use Rattle.points_law.specs.Law.{AreLayers}
use Rattle.label_sweep.specs.Changing.{changes}
use Rattle.label_sweep.specs.StripLabels.{AreResultEdgesAlong}
use Rattle.label_sweep.proofs.ChangingEdges.{changing_are_layers, changing_bound}
use Rattle.label_sweep.proofs.Directing.{strips_make_result}
use Rattle.phases.specs.Labels.{AreOfStrip, ComeInto, TellLabels}
use Rattle.phases.proofs.StripLabels.{changing_are, none_come}
use Rattle.strip_map_law.specs.Whole.{AreAllDirected, AreStripsLabelled}
use Rattle.strip_map_law.specs.Whole.AreStripsLabelled.{none_labelled, one_labelled}

-- each of the lists is that of its strip
abbrev pub AreOwn : List ℤ → ℕ → List Counted → List (List Counted) → Type 0
AreOwn cuts strip counted owns = (k : ℕ) (own : List Counted) → slice_get owns k ≡ Some own → AreOfStrip cuts (strip + k) counted own

module _ (op : Op) (cuts : List ℤ) (counted : List Counted) (layers : AreLayers counted) where
  first_own : (strip : ℕ) (own : List Counted) (owns : List (List Counted)) → AreOwn cuts strip counted (own ∷ owns) → AreOfStrip cuts strip counted own
  first_own strip own owns h = let e : strip + 0 ≡ strip = omega arith in subst (λ (n : ℕ). AreOfStrip cuts n counted own) e (h zero own refl)

  other_owns : (strip : ℕ) (own : List Counted) (owns : List (List Counted)) → AreOwn cuts strip counted (own ∷ owns) → AreOwn cuts (strip + 1) counted owns
  other_owns strip own owns h k other is = let e : strip + suc k ≡ strip + 1 + k = omega arith in subst (λ (n : ℕ). AreOfStrip cuts n counted other) e (h (suc k) other is)

  all_along : {strip : ℕ} {crossing : List Counted} {owns : List (List Counted)} {alongs : List (List DirectedEdge)} → AreStripsLabelled op cuts strip crossing owns alongs
      → ComeInto cuts strip counted crossing → AreOwn cuts strip counted owns → AllZip (AreResultEdgesAlong op counted) owns alongs
  all_along none_labelled come own = tt
  all_along (one_labelled {strip} {crossing} {own} {next} {along} {owns} {alongs} labels going rest) come are =
      let tell : TellLabels counted cuts strip crossing own = record { layers = layers; own_are = first_own strip own owns are; crossing_are = come } in
      (labels counted tell, all_along rest (going counted tell) (other_owns strip own owns are))

-- ---- the edges that change a parity
changing_all : (strips : List (List Counted)) → filter changes (flat_map (λ edges. edges) strips) ≡ flat_map (λ own. own) (map (filter changes) strips)
changing_all [] = refl
changing_all (edges ∷ strips) = filter-append changes edges (flat_map (λ es. es) strips) ∙ ap (λ (cs : List Counted). filter changes edges ++ cs) (changing_all strips)

same_there : {X : Type 0} (xs ys : List X) → xs ≡ ys → (x : X) → Contains xs x ↔ Contains ys x
same_there {X} xs ys e x = ((λ i. subst (λ (zs : List X). Contains zs x) e i), (λ i. subst (λ (zs : List X). Contains zs x) (sym e) i))

changing_own : (cuts : List ℤ) (counted : List Counted) (strip : ℕ) (strips : List (List Counted)) → AreOwn cuts strip counted strips → AreOwn cuts strip (filter changes counted) (map (filter changes) strips)
changing_own cuts counted strip [] h k own is = absurd (let q = is in cc)
changing_own cuts counted strip (edges ∷ strips) h zero own is =
    let same : filter changes edges ≡ own = some_same refl is in
    changing_are cuts (strip + 0) counted edges (h zero edges refl) own (sym same)
changing_own cuts counted strip (edges ∷ strips) h (suc k) own is =
    let e : strip + 1 + k ≡ strip + suc k = omega arith in
    let f : (n : ℕ) → strip + suc n ≡ strip + 1 + n = λ n. omega arith in
    subst (λ (n : ℕ). AreOfStrip cuts n (filter changes counted) own) e
    (changing_own cuts counted (strip + 1) strips (λ n other is'. subst (λ (m : ℕ). AreOfStrip cuts m counted other) (f n) (h (suc n) other is')) k own is)

-- ---- all strips
pub result_of_strips : (op : Op) (cuts : List ℤ) (strips : List (List Counted)) (alongs : List (List DirectedEdge)) (directed : List DirectedEdge) → AreLayers (flat_map (λ edges. edges) strips)
    → AreOwn cuts 0 (flat_map (λ edges. edges) strips) strips → AreStripsLabelled op cuts 0 [] (map (filter changes) strips) alongs → AreAllDirected alongs directed
    → AreResultEdges op (flat_map (λ edges. edges) strips) directed
result_of_strips op cuts strips alongs directed layers own labelled all =
    let counted : List Counted = flat_map (λ edges. edges) strips in
    let odd : List Counted = filter changes counted in
    let owns : List (List Counted) = map (filter changes) strips in
    let few = changing_are_layers counted layers in
    let along = all_along op cuts odd few labelled (none_come cuts odd) (changing_own cuts counted 0 strips own) in
    changing_bound op counted layers directed
    (strips_make_result op odd owns alongs (same_there odd (flat_map (λ own. own) owns) (changing_all strips)) along directed all.ascending all.exact)
