-- The numbers of hot pixels and of records in a report are those of the definitions.
use Rattle.std.proofs.Common.{◌≡◌, ◌≢◌, ◌∙◌, ℕ, List, [], ◌∷◌, Some, map, refl, sym, ap, ap₂, subst, arith}
use Rattle.std.proofs.Math.Logic.{∥∥₁_map}
use Rattle.std.proofs.lemmas.List.{length-map}
use Rattle.std.specs.Prelude.{AllPairs, slice_get}
use Rattle.geom.specs.declared.edge.Counted.{Counted}
use Rattle.geom.specs.declared.point.Pt.{Pt}
use Rattle.geom.specs.declared.segment.Seg.{Seg}
use Rattle.geom.specs.Hot.{IsHot}
use Rattle.geom.proofs.Lists.{Distinct, In, contains_in, in_contains}
use Rattle.linking.proofs.Gathering.{AreCovered}
use Rattle.linking.proofs.Parts.{IsPart}
use Rattle.hot_region.proofs.ListLaws.{in_map, pairs_cons, pairs_map}
use Rattle.routing.specs.declared.record.Record.{Record}
use Rattle.routing.specs.Pieces.{IsRecord}
use Rattle.routing.specs.Steps.{steps_to}
use Rattle.engine.specs.Counting.{AreCountsOf, CountsAreExactWithin, IsNumberOf, MeetsHot}
use Rattle.engine.specs.Runs.{ReportsWithin}
use Rattle.layers.specs.declared.plan.Plan.{Plan}
use Rattle.results.specs.declared.text.Report.{Report}
use Rattle.engine.proofs.Determined.{tiles_cover}
use Rattle.engine.proofs.SumsOfTiles.{all_hot, all_records, hot_owned, record_owned}

apart_pairs : {X : Type 0} (xs : List X) → Distinct xs → AllPairs (λ x y. x ≢ y) xs
apart_pairs [] d = λ i j x a b. absurd (omega arith)
apart_pairs (x ∷ xs) d = pairs_cons (λ u v. u ≢ v) x xs (λ c h e. d.0 (subst (λ y. In y xs) (sym e) (contains_in xs c h))) (apart_pairs xs d.1)

-- a part that owns all is the whole
whole : {X : Type 0} (Is Owned : X → Type 0) (n : ℕ) → IsPart Is Owned n → ((x : X) → Is x → Owned x) → IsNumberOf Is n
whole Is Owned n p all = record {
  those = p.those;
  once = apart_pairs p.those p.distinct;
  exact = λ x. ((λ h. p.is x (contains_in p.those x h)), (λ h. in_contains p.those x (p.all x h (all x h))));
  number_is = p.number_is;
}

-- ---- a record is known by its segment's number and its pixel
abbrev pair_of : Record → ℕ × Pt
pair_of r = (r.segment, r.pixel)

module _ (segments : List Seg) where
  met_hot : (r : Record) → IsRecord segments r → MeetsHot segments (pair_of r)
  met_hot r h = record { s = h.s; is_at = h.is_at; hot = h.hot; met = h.met }

  abbrev the_record : (pair : ℕ × Pt) → Seg → Record
  the_record pair s = record { segment = pair.0; steps = steps_to s pair.1; pixel = pair.1 }

  is_record : (pair : ℕ × Pt) (h : MeetsHot segments pair) → IsRecord segments (the_record pair h.s)
  is_record pair h = record { s = h.s; is_at = h.is_at; hot = h.hot; met = h.met; steps_are = refl }

  same_record : (r q : Record) → IsRecord segments r → IsRecord segments q → pair_of r ≡ pair_of q → r ≡ q
  same_record r q h k e =
      let s : r.segment ≡ q.segment = ap (λ (x : ℕ × Pt). x.0) e in
      let p : r.pixel ≡ q.pixel = ap (λ (x : ℕ × Pt). x.1) e in
      let a : slice_get segments r.segment ≡ Some h.s = h.is_at in
      let b : slice_get segments q.segment ≡ Some k.s = k.is_at in
      let c : r.steps ≡ steps_to h.s r.pixel = h.steps_are in
      let d : q.steps ≡ steps_to k.s q.pixel = k.steps_are in
      let same : h.s ≡ k.s = cc in
      let t : r.steps ≡ q.steps = c ∙ ap₂ steps_to same p ∙ sym d in
      λ i. record { segment = s i; steps = t i; pixel = p i }

  pairs : (n : ℕ) → IsNumberOf (IsRecord segments) n → IsNumberOf (MeetsHot segments) n
  pairs n w = record {
    those = map pair_of w.those;
    once = pairs_map (λ r q. r ≢ q) (λ x y. x ≢ y) pair_of w.those w.once (λ r q i j apart e. apart (same_record r q ((w.exact r).0 i) ((w.exact q).0 j) e));
    exact = λ x. (
      (λ i. let r = (in_map pair_of w.those x).0 i in subst (MeetsHot segments) r.2 (met_hot r.0 ((w.exact r.0).0 r.1))),
      (λ h. (in_map pair_of w.those x).1 (the_record x h.s, (w.exact (the_record x h.s)).1 (is_record x h), refl)),
    );
    number_is = w.number_is ∙ sym (length-map w.those pair_of);
  }

-- ---- the sums over all tiles
exact_counts : {M : Type 0} (limit : ℕ) (a b : List ℕ) (plan : Plan) (counted : List Counted) (report : Report M) → ReportsWithin limit plan a b counted report → AreCountsOf a b report.hot report.records
exact_counts limit a b plan counted report h = record {
  segments = segments;
  are_segments = h.rounded.are_segments;
  hot_are = subst (λ (n : ℕ). ∥ IsNumberOf (IsHot segments) n ∥₁) (sym h.told.hot_is)
      (∥∥₁_map (all_hot h.grid segments h.tiles h.rounded.tiles_are cover) (λ p. whole (IsHot segments) _ _ p (hot_owned h.grid segments h.tiles h.rounded.tiles_are cover)));
  records_are = subst (λ (n : ℕ). ∥ IsNumberOf (MeetsHot segments) n ∥₁) (sym h.told.records_is)
      (∥∥₁_map (all_records h.grid segments h.tiles h.rounded.tiles_are cover) (λ p. pairs segments _ (whole (IsRecord segments) _ _ p (record_owned h.grid segments h.tiles h.rounded.tiles_are cover))));
}
  where
    segments : List Seg
    segments = h.rounded.segments

    cover : AreCovered h.grid segments
    cover = tiles_cover limit plan a b counted report h

pub counts_are_exact : (M : Type 0) → CountsAreExactWithin M
counts_are_exact M = exact_counts
