-- From the borders of the features of layers to what is told of their faces.
use Rattle.std.proofs.Common.{◌≡◌, ⊎_elim, ℕ, suc, ◌+◌, ◌<◌, List, [], ◌∷◌, length, map, sym, ap, arith, subst}
use Rattle.std.proofs.Math.Logic.{∥∥₁_elim, ∥∥₁_map}
use Rattle.std.proofs.Props.{props}
use Rattle.std.specs.List.{All}
use Rattle.std.specs.Prelude.{true}
use Rattle.std.proofs.lemmas.List.Elements.{filter_passes}
use Rattle.geom.specs.declared.point.Pt.{Pt}
use Rattle.geom.specs.declared.segment.Seg.{Seg}
use Rattle.geom.specs.Segments.{layer_steps}
use Rattle.geom.proofs.Lists.{In, in_append, in_map}
use Rattle.geom.proofs.Owners.{all_in}
use Rattle.cover_law.specs.Borders.{AreBordered, AreFeatureSegments, feature_parts, owner_of, part_of}
use Rattle.cover_law.specs.Changing.{changing, has_some}
use Rattle.cover_law.specs.Cover.{AreBorders, Bordered}
use Rattle.cover_law.specs.Faces.{AreFaces}
use Rattle.cover_law.specs.Rows.{AreRows, Row}
use Rattle.cover_law.proofs.ChangingEdges.{changing_have_same_rows}
use Rattle.cover_law.proofs.ClosedFeatures.{features_of_rings_close}
use Rattle.cover_law.proofs.FaceLaws.{bordered_noded}
use Rattle.cover_law.proofs.RoundedBorders.{rounded_are_borders}
use Rattle.linking.specs.declared.bordering.RoundedBorders.{RoundedBorders}
use Rattle.engine.specs.FaceBorders.{AreRoundedBorders, borders_in}
use Rattle.layers.specs.FacesRefusals.{HaveIds, IsNumberOfIds}
use Rattle.layers.specs.Segments.{AllInLimit}

-- ---- owners are features

below_parts : (k : ℕ) (fs : List (List (List Pt))) (p : Pt × Pt × ℕ) → In p (feature_parts k fs) → p.2 < length fs + k
below_parts k [] p i = absurd i
below_parts k (f ∷ fs) p i = ⊎_elim
    (λ j. let m = in_map (part_of k) (layer_steps f) p j in let e = ap owner_of m.2 in omega (arith, e))
    (λ j. let l = below_parts (suc k) fs p j in omega (arith, l))
    (in_append (map (part_of k) (layer_steps f)) (feature_parts (suc k) fs) p i)

pub owners_below : (fs : List (List (List Pt))) (segments : List Seg) (owners : List ℕ) → AreFeatureSegments fs segments owners → All (λ (f : ℕ). f < length fs) owners
owners_below fs segments owners are = subst (λ (ks : List ℕ). All (λ (f : ℕ). f < length fs) ks) (sym are.owners_are)
    (all_in (λ (f : ℕ). f < length fs) (map owner_of (feature_parts 0 fs)) (λ f i.
    let m = in_map owner_of (feature_parts 0 fs) f i in
    let l = below_parts 0 fs m.0 m.1 in
    subst (λ (g : ℕ). g < length fs) m.2 (omega (arith, l))))

module _ {M : Type 0} (fs : List (List (List Pt))) (segments : List Seg) (owners : List ℕ) (are : AreFeatureSegments fs segments owners) (limits : AllInLimit segments) (r : RoundedBorders M) (rounded : AreRoundedBorders segments owners r) where
  below : All (λ (f : ℕ). f < length fs) owners
  below = owners_below fs segments owners are

  -- ---- what the cover sets ask of the borders
  pub are_borders : AreBorders (borders_in r)
  are_borders = rounded.closed (length fs) below (λ f l. features_of_rings_close fs segments owners are f) limits

  pub features_below : All (λ (f : ℕ). f < length fs) r.features.items
  features_below = rounded.below (length fs) below

  some_prop : (bs : List Bordered) → IsProp (All (λ (b : Bordered). has_some b.features ≡ true) bs)
  some_prop bs = hlevel props

  pub have_some : All (λ (b : Bordered). has_some b.features ≡ true) (borders_in r)
  have_some = ∥∥₁_elim rounded.borders (some_prop (borders_in r)) (λ c.
      let e = c (length fs) below in
      subst (λ (bs : List Bordered). All (λ (b : Bordered). has_some b.features ≡ true) bs) (sym e.2) (filter_passes (λ (b : Bordered). has_some b.features) e.0))

  -- ---- the rows over the borders are those of the faces
  module _ (edges : List Bordered) (of : AreBordered (length fs) segments owners edges) (same : borders_in r ≡ changing edges) where
    pub whole : AreBorders edges
    whole = rounded_are_borders (length fs) segments owners edges of limits (λ f l. features_of_rings_close fs segments owners are f) (bordered_noded (length fs) segments owners edges of)

    abbrev pub faces_are : (rows : List Row) → AreRows (length fs) (borders_in r) rows → AreFaces fs rows
    faces_are rows h = record {
      segments = segments;
      owners = owners;
      are_segments = are;
      edges = edges;
      are_bordered = of;
      are_rows = ((changing_have_same_rows edges whole).rows (length fs) rows).1 (subst (λ (bs : List Bordered). AreRows (length fs) bs rows) same h);
    }

    pub ids_are : (ids : ℕ) → IsNumberOfIds (length fs) (borders_in r) ids → HaveIds fs ids
    ids_are ids h = record {
      segments = segments;
      owners = owners;
      are_segments = are;
      edges = edges;
      are_bordered = of;
      is_number = subst (λ (bs : List Bordered). IsNumberOfIds (length fs) bs ids) same h;
    }

  pub have_ids : (ids : ℕ) → IsNumberOfIds (length fs) (borders_in r) ids → ∥ HaveIds fs ids ∥₁
  have_ids ids h = ∥∥₁_map rounded.borders (λ c. let e = c (length fs) below in ids_are e.0 e.1 e.2 ids h)
