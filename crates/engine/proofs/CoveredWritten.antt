-- What is told of the result on two layers that are read as covered, from the borders of their features.
use Rattle.std.proofs.Common.{◌≡◌, ◌∙◌, ℕ, suc, ◌<◌, ◌≤◌, List, [], ◌∷◌, ◌++◌, length, map, get_or, sym, ap, arith, refl, subst}
use Rattle.std.proofs.Math.Logic.{∥∥₁_map}
use Rattle.std.specs.List.{All}
use Rattle.std.proofs.lemmas.List.{append-nil, length-map}
use Rattle.std.proofs.lemmas.List.Elements.{All-contains}
use Rattle.geom.specs.declared.op.Op.{Op}
use Rattle.geom.specs.declared.point.Pt.{Pt}
use Rattle.geom.proofs.Lists.{in_contains}
use Rattle.geom.proofs.Owners.{all_in}
use Rattle.grid.specs.Tiles.{Tiling, most_tiles}
use Rattle.cover_law.specs.Borders.{AreBordered, AreFeatureSegments}
use Rattle.cover_law.specs.Cover.{AreBorders, Bordered, bordered}
use Rattle.cover_law.proofs.ClosedFeatures.{features_of_rings_close}
use Rattle.cover_law.proofs.FaceLaws.{bordered_noded}
use Rattle.cover_law.proofs.RoundedBorders.{rounded_are_borders}
use Rattle.layers.specs.declared.plan.Plan.{Plan}
use Rattle.engine.specs.declared.faces_run.FaceBorders.{FaceBorders}
use Rattle.layers.specs.declared.feature_segments.LayerSize.{LayerSize}
use Rattle.results.specs.declared.text.Report.{Report}
use Rattle.engine.specs.CoveredResults.{IsCoveredText}
use Rattle.engine.specs.CoveredRuns.{IsCoveredWritten}
use Rattle.engine.specs.FaceBorders.{borders_in}
use Rattle.engine.specs.Faces.{AreBordersOver}
use Rattle.layers.specs.FeatureSegments.{all_features, feature_steps}
use Rattle.layers.specs.FeatureLayers.{AreCheckedLayers, AreReady, StandForLayers}
use Rattle.engine.specs.Rounds.{IsRemade, TellsTiles}
use Rattle.engine.proofs.CoveredTexts.{whole_text}
use Rattle.engine.proofs.FacesOf.{are_borders, features_below, owners_below}
use Rattle.engine.proofs.LayersKnown.{layers_ready}

-- ---- two layers
pub record Both (layers : List (List (List (List Pt)))) : Type 0 where
  pub a : List (List (List Pt))
  pub b : List (List (List Pt))
  pub are : layers ≡ a ∷ b ∷ []

two_layers : (s t : List ℕ) (layers : List (List (List (List Pt)))) → StandForLayers (s ∷ t ∷ []) layers → Both layers
two_layers s t [] h = absurd h
two_layers s t (x ∷ []) h = absurd h.1
two_layers s t (x ∷ y ∷ []) h = record { a = x; b = y; are = refl }
two_layers s t (x ∷ y ∷ z ∷ zs) h = absurd h.1.1

stand_length : (texts : List (List ℕ)) (layers : List (List (List (List Pt)))) → StandForLayers texts layers → length layers ≡ length texts
stand_length [] [] h = refl
stand_length [] (x ∷ xs) h = absurd h
stand_length (t ∷ ts) [] h = absurd h
stand_length (t ∷ ts) (x ∷ xs) h = ap suc (stand_length ts xs h.1)

first_two : (f : LayerSize → ℕ) (zs : List LayerSize) (d : LayerSize) (p q : ℕ) → map f zs ≡ p ∷ q ∷ [] → (f (get_or zs 0 d) ≡ p) × (f (get_or zs 1 d) ≡ q)
first_two f [] d p q h = absurd (let k = h in cc)
first_two f (z ∷ []) d p q h = absurd (let k = h in cc)
first_two f (z ∷ w ∷ zs) d p q h = (let k = h in cc, let k = h in cc)

-- ---- what the borders over layers tell
module _ {M : Type 0} (limit : ℕ) (plan : Plan) (texts : List (List ℕ)) (n : ℕ) (g : Tiling) (known : ∥ AreCheckedLayers limit plan texts n g ∥₁) (b : FaceBorders M) (over : AreBordersOver texts g b) where
  pub borders_over : AreBorders (borders_in b.rounded)
  borders_over = are_borders (all_features over.layers) over.of.segments over.of.owners over.of.are_segments over.of.in_limit b.rounded over.of.rounded

  pub below_all : All (λ (f : ℕ). f < 2147483647) b.rounded.features.items
  below_all = all_in (λ (f : ℕ). f < 2147483647) b.rounded.features.items (λ f i.
      let all = features_below (all_features over.layers) over.of.segments over.of.owners over.of.are_segments over.of.in_limit b.rounded over.of.rounded in
      let l = All-contains (λ (k : ℕ). k < length (all_features over.layers)) b.rounded.features.items f all (in_contains b.rounded.features.items f i) in
      let few = over.of.few in
      omega (arith, l, few))

  pub tiles_few : length b.rounded.tiles.items ≤ most_tiles
  tiles_few =
      let each = over.of.tiles_are.one_each in
      let few = (layers_ready limit plan texts n g known over.layers over.stand).few_tiles in
      omega (arith, each, few)

  pub size_each : length b.sizes.items ≡ length texts
  size_each = sym (length-map b.sizes.items (λ (z : LayerSize). z.features)) ∙ ap (λ (ns : List ℕ). length ns) over.of.features_are
      ∙ length-map over.layers (λ (fs : List (List (List Pt))). length fs) ∙ stand_length texts over.layers over.stand

-- ---- the answer
module _ {M : Type 0} (limit : ℕ) (op : Op) (plan : Plan) (s t : List ℕ) (n : ℕ) (g : Tiling) (known : ∥ AreCheckedLayers limit plan (s ∷ t ∷ []) n g ∥₁) (b : FaceBorders M) (over : AreBordersOver (s ∷ t ∷ []) g b) where
  pub two : Both over.layers
  two = two_layers s t over.layers over.stand

  abbrev pub fs : List (List (List Pt))
  fs = two.a ++ two.b

  all : all_features over.layers ≡ fs
  all = ap all_features two.are ∙ ap (λ (xs : List (List (List Pt))). two.a ++ xs) (append-nil two.b)

  are : AreFeatureSegments fs over.of.segments over.of.owners
  are = subst (λ (xs : List (List (List Pt))). AreFeatureSegments xs over.of.segments over.of.owners) all over.of.are_segments

  pub below_count : All (λ (f : ℕ). f < length fs) b.rounded.features.items
  below_count = features_below fs over.of.segments over.of.owners are over.of.in_limit b.rounded over.of.rounded

  features_are : map (λ (z : LayerSize). z.features) b.sizes.items ≡ length two.a ∷ length two.b ∷ []
  features_are = over.of.features_are ∙ ap (λ (ls : List (List (List (List Pt)))). map (λ (x : List (List (List Pt))). length x) ls) two.are

  segments_are : map (λ (z : LayerSize). z.segments) b.sizes.items ≡ length (feature_steps two.a) ∷ length (feature_steps two.b) ∷ []
  segments_are = over.of.segments_are ∙ ap (λ (ls : List (List (List (List Pt)))). map (λ (x : List (List (List Pt))). length (feature_steps x)) ls) two.are

  whole : (edges : List Bordered) → AreBordered (length fs) over.of.segments over.of.owners edges → AreBorders edges
  whole edges of = rounded_are_borders (length fs) over.of.segments over.of.owners edges of over.of.in_limit (λ f l. features_of_rings_close fs over.of.segments over.of.owners are f) (bordered_noded (length fs) over.of.segments over.of.owners edges of)

  pub covered_written : {N : Type 0} (first second : LayerSize) (text : List ℕ) (report : Report N) → first ≡ get_or b.sizes.items 0 first → second ≡ get_or b.sizes.items 1 second
      → IsCoveredText op first.features (length fs) (borders_in b.rounded) text
      → (report.segments_a ≡ first.segments) × (report.segments_b ≡ second.segments) → report.edges ≡ length b.rounded.borders.items
      → TellsTiles b.rounded.tiles.items report.hot report.records report.tiles.items → report.remade ≡ b.rounded.remade → IsCoveredWritten limit op plan s t text report
  covered_written first second text report one other is sizes edges told remade = record {
    features_a = two.a;
    features_b = two.b;
    grid = g;
    ready = subst (λ (ls : List (List (List (List Pt)))). AreReady limit plan (s ∷ t ∷ []) ls g) two.are (layers_ready limit plan (s ∷ t ∷ []) n g known over.layers over.stand);
    result = ∥∥₁_map over.of.rounded.borders (λ c.
        let e = c (length fs) (owners_below fs over.of.segments over.of.owners are) in
        record {
          of = record {
            segments = over.of.segments;
            owners = over.of.owners;
            are_segments = are;
            edges = e.0;
            are_bordered = e.1;
            is_text = whole_text op (length two.a) (length fs) e.0 (whole e.0 e.1) text
                (subst (λ (bs : List Bordered). IsCoveredText op (length two.a) (length fs) bs text) e.2 (subst (λ (k : ℕ). IsCoveredText op k (length fs) (borders_in b.rounded) text) split is));
          };
          changing_edges = edges ∙ sym (length-map b.rounded.borders.items (bordered b.rounded.features.items)) ∙ ap (λ (bs : List Bordered). length bs) e.2;
          tiles = b.rounded.tiles.items;
          tiles_are = over.of.tiles_are;
          told = told;
        });
    segments_a = sizes.0 ∙ ap (λ (z : LayerSize). z.segments) one ∙ (first_two (λ (z : LayerSize). z.segments) b.sizes.items first (length (feature_steps two.a)) (length (feature_steps two.b)) segments_are).0;
    segments_b = sizes.1 ∙ ap (λ (z : LayerSize). z.segments) other ∙ (first_two (λ (z : LayerSize). z.segments) b.sizes.items second (length (feature_steps two.a)) (length (feature_steps two.b)) segments_are).1;
    remade = subst IsRemade (sym remade) over.of.remade;
  }
    where
      split : first.features ≡ length two.a
      split = ap (λ (z : LayerSize). z.features) one ∙ (first_two (λ (z : LayerSize). z.features) b.sizes.items first (length two.a) (length two.b) features_are).0
