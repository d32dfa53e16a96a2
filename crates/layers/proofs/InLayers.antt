-- Layers in turn: what was read of each, and the features of those before it.
use Rattle.std.proofs.Common.{◌≡◌, ◌∙◌, Bor, ℕ, suc, ◌+◌, ◌<◌, ◌≤◌, List, [], ◌∷◌, ◌++◌, refl, sym, ap, subst, arith, length, take, drop, drop-cons, get_or, map}
use Rattle.std.specs.Prelude.{None, Option, Some, IfSome, option_map, slice_get, Vec}
use Rattle.std.specs.List.{AllZip}
use Rattle.std.proofs.lemmas.List.{get_or-map, length-map, take_all, take_more}
use Rattle.std.proofs.lemmas.Option.{slice_get-get_or, slice_get-map}
use Rattle.std.specs.Option.{option_flatten, option_to_list, unwrap_or}
use Rattle.geom.specs.declared.point.Pt.{Pt}
use Rattle.wkt.specs.Features.{StandsForFeatures}
use Rattle.layers.specs.declared.feature_segments.FeatureSegments.{FeatureSegments}
use Rattle.layers.specs.FeatureSegments.{AreFeaturesOf}
use Rattle.layers.specs.FeatureLayers.{AreFeaturesInLimit, AreKept, HaveKept, StandForLayers}

-- ---- texts, as they are lent

pub text_at : (layers : List (Bor (List ℕ))) (number : ℕ) (d : Bor (List ℕ)) → number < length layers → slice_get (map (λ t. t.now) layers) number ≡ Some (get_or layers number d).now
text_at layers number d h =
    slice_get-map (λ (t : Bor (List ℕ)). t.now) layers number ∙ ap (λ (o : Option (Bor (List ℕ))). option_map (λ (t : Bor (List ℕ)). t.now) o) (slice_get-get_or layers number d h)

pub text_next : (layers : List (Bor (List ℕ))) (number : ℕ) (d : Bor (List ℕ)) → number < length layers
    → take (number + 1) (map (λ t. t.now) layers) ≡ take number (map (λ t. t.now) layers) ++ (get_or layers number d).now ∷ []
text_next layers number d h =
    let texts : List (List ℕ) = map (λ (t : Bor (List ℕ)). t.now) layers in
    take_more texts number d.now (let l = length-map layers (λ (t : Bor (List ℕ)). t.now) in omega (arith, l, h))
    ∙ ap (λ (t : List ℕ). take number texts ++ t ∷ []) (get_or-map (λ (t : Bor (List ℕ)). t.now) layers number d d.now h)

pub texts_whole : (layers : List (Bor (List ℕ))) (number : ℕ) → length layers ≤ number → take number (map (λ t. t.now) layers) ≡ map (λ t. t.now) layers
texts_whole layers number h = take_all number (map (λ (t : Bor (List ℕ)). t.now) layers) (let l = length-map layers (λ (t : Bor (List ℕ)). t.now) in omega (arith, l, h))

-- ---- what is kept

-- what is kept of one layer
abbrev pub IsKept : List ℕ → Option (List (List (List Pt))) → Type 0
IsKept text f = IfSome f (λ features. StandsForFeatures text features × AreFeaturesInLimit features)

-- one more behind lists that belong together
pub zip_snoc : {X Y : Type 0} (R : X → Y → Type 0) (xs : List X) (ys : List Y) (x : X) (y : Y) → AllZip R xs ys → R x y → AllZip R (xs ++ x ∷ []) (ys ++ y ∷ [])
zip_snoc R [] [] x y h r = (r, tt)
zip_snoc R [] (v ∷ ys) x y h r = absurd h
zip_snoc R (u ∷ xs) [] x y h r = absurd h
zip_snoc R (u ∷ xs) (v ∷ ys) x y h r = (h.0, zip_snoc R xs ys x y h.1 r)

-- what is kept of layers in turn, as far as the list goes
abbrev pub AreLeft : List (List ℕ) → List (Option (List (List (List Pt)))) → Type 0
AreLeft [] rest = Unit {0}
AreLeft (t ∷ ts) [] = Unit {0}
AreLeft (t ∷ ts) (f ∷ rest) = IsKept t f × AreLeft ts rest

none_are_left : (texts : List (List ℕ)) → AreLeft texts []
none_are_left [] = tt
none_are_left (t ∷ ts) = tt

kept_are_left : (texts : List (List ℕ)) (kept : List (Option (List (List (List Pt))))) → AreKept texts kept → AreLeft texts kept
kept_are_left [] kept h = tt
kept_are_left (t ∷ ts) [] h = tt
kept_are_left (t ∷ ts) (f ∷ kept) h = (h.0, kept_are_left ts kept h.1)

-- the layers below a number are listed, and this is what is kept of those from there on
pub record IsListedTo {M : Type 0} (texts : List (List ℕ)) (number : ℕ) (rest : List (Option (List (List (List Pt))))) (s : FeatureSegments M) : Type 0 where
  pub layers : List (List (List (List Pt)))
  pub stand : StandForLayers (take number texts) layers
  pub left : AreLeft (drop number texts) rest
  pub all : AreFeaturesOf layers s

pub none_listed : {M : Type 0} (texts : List (List ℕ)) (kept : Option (Vec (Option (List (List (List Pt)))) M)) (none : Vec (Option (List (List (List Pt)))) M) (s : FeatureSegments M) → HaveKept texts kept → none.items ≡ [] → AreFeaturesOf [] s
    → IsListedTo texts 0 (unwrap_or kept none).items s
none_listed texts None none s h e all = record { layers = []; stand = tt; left = subst (λ (fs : List (Option (List (List (List Pt))))). AreLeft texts fs) (sym e) (none_are_left texts); all = all }
none_listed texts (Some kept) none s h e all = record { layers = []; stand = tt; left = kept_are_left texts kept.items h; all = all }

-- the next layer: what is kept of it, and that it is listed
module _ (texts : List (List ℕ)) (number : ℕ) (below : number < length texts) where
  next : drop number texts ≡ get_or texts number [] ∷ drop (number + 1) texts
  next = let e : suc number ≡ number + 1 = omega arith in drop-cons texts number [] below ∙ ap (λ (n : ℕ). get_or texts number [] ∷ drop n texts) e

  at_next : (f : Option (List (List (List Pt)))) (rest : List (Option (List (List (List Pt))))) → AreLeft (drop number texts) (f ∷ rest) → AreLeft (get_or texts number [] ∷ drop (number + 1) texts) (f ∷ rest)
  at_next f rest h = subst (λ (ts : List (List ℕ)). AreLeft ts (f ∷ rest)) next h

  pub kept_now : (kept : Option (Option (List (List (List Pt))))) (old new : List (Option (List (List (List Pt))))) → old ≡ option_to_list kept ++ new → AreLeft (drop number texts) old → IsKept (get_or texts number []) (option_flatten kept)
  kept_now None old new e h = tt
  kept_now (Some f) old new e h =
      let split : AreLeft (get_or texts number [] ∷ drop (number + 1) texts) (f ∷ new) = at_next f new (subst (λ (fs : List (Option (List (List (List Pt))))). AreLeft (drop number texts) fs) e h) in
      split.0

  still_left : (kept : Option (Option (List (List (List Pt))))) (old new : List (Option (List (List (List Pt))))) → old ≡ option_to_list kept ++ new → (kept ≡ None → new ≡ []) → AreLeft (drop number texts) old → AreLeft (drop (number + 1) texts) new
  still_left None old new e none h = subst (λ (fs : List (Option (List (List (List Pt))))). AreLeft (drop (number + 1) texts) fs) (sym (none refl)) (none_are_left (drop (number + 1) texts))
  still_left (Some f) old new e none h =
      let split : AreLeft (get_or texts number [] ∷ drop (number + 1) texts) (f ∷ new) = at_next f new (subst (λ (fs : List (Option (List (List (List Pt))))). AreLeft (drop number texts) fs) e h) in
      split.1

  pub listed_next : {M : Type 0} (kept : Option (Option (List (List (List Pt))))) (old new : List (Option (List (List (List Pt))))) (before after : FeatureSegments M) (layer : List (List (List Pt))) → (h : IsListedTo texts number old before)
      → old ≡ option_to_list kept ++ new → (kept ≡ None → new ≡ []) → StandsForFeatures (get_or texts number []) layer → AreFeaturesOf (h.layers ++ layer ∷ []) after → IsListedTo texts (number + 1) new after
  listed_next kept old new before after layer h e none stands all = record {
    layers = h.layers ++ layer ∷ [];
    stand = subst (λ (ts : List (List ℕ)). StandForLayers ts (h.layers ++ layer ∷ [])) (sym (take_more texts number [] below))
        (zip_snoc (λ (t : List ℕ) fs. StandsForFeatures t fs) (take number texts) h.layers (get_or texts number []) layer h.stand stands);
    left = still_left kept old new e none h.left;
    all = all;
  }
