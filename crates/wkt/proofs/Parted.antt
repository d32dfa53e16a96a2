-- A text of two layer texts, with a line feed between them, is a layer text with the features of both, and so with their rings.
use Rattle.std.proofs.Common.{◌≡◌, inl, inr, ℕ, ◌-◌, Bool, true, false, cond, List, [], ◌∷◌, ◌++◌, length, map, take, refl, sym, ◌∙◌, ap, subst, append_assoc, Option, Some, None, pos}
use Rattle.std.specs.Prelude.{IsTrue, neg_ℤ, nat_lt, unsigned_abs}
use Rattle.std.specs.List.{AllByRecursion, flat_map}
use Rattle.std.proofs.lemmas.List.{append-nil, length-map, map-append}
use Rattle.std.proofs.lemmas.List.Concat.{flat_map-append}
use Rattle.geom.specs.declared.point.Pt.{Pt}
use Rattle.geom.specs.declared.fault.Fault.{Fault}
use Rattle.geom.specs.declared.fault.Fault.TheVariants.{RingShort, RingOpen}
use Rattle.geom.specs.Limit.{coordinate_limit, InLimit}
use Rattle.wkt.specs.LayerText.{Number, Point, Ring, is_space, Spaces, Gap, Word, Digits, IsNumber, IsPoint, More, Listed, IsRing, IsBody, joined, polygon_word, multipolygon_word, empty_word, IsEmpty, IsSingle, IsMulti, IsGeometry, Geometries, IsLayer}
use Rattle.wkt.specs.Refusals.{place_of, numbers, all_numbers, first_outside, is_closed, fault_at, or_else, first_fault, plain, StandsFor}
use Rattle.wkt.specs.Features.{IsFeaturesAt, HasFeatures, StandsForFeatures, all_rings}
use Rattle.wkt.proofs.Closing.{none_first}
use Rattle.wkt.proofs.Collections.{front_inside}
use Rattle.wkt.proofs.Inside.{both_all, of_within, points_in}
use Rattle.wkt.proofs.Surveys.{outside_then}
use Rattle.wkt.proofs.Cuts.{stands_apart, stands_joined}

-- ---- what stands in a text stands in it when it goes on; only offsets change

abbrev places : Ring → List Pt
places r = map place_of r.points

spaces_on : (u t rest : List ℕ) → Spaces t rest → Spaces (t ++ u) (rest ++ u)
spaces_on u t rest (s, all, e) = (s, all, ap (λ x. x ++ u) e ∙ append_assoc s rest u)

gap_on : (u t rest : List ℕ) → Gap t rest → Gap (t ++ u) (rest ++ u)
gap_on u t rest (b, v, h, e, s) = (b, v ++ u, h, ap (λ x. x ++ u) e, spaces_on u v rest s)

word_on : (u cs t rest : List ℕ) → Word cs t rest → Word cs (t ++ u) (rest ++ u)
word_on u [] t rest e = ap (λ x. x ++ u) e
word_on u (c ∷ cs) t rest (b, v, e, h, w) = (b, v ++ u, ap (λ x. x ++ u) e, h, word_on u cs v rest w)

digits_on : (u t : List ℕ) (k : ℕ) (rest : List ℕ) → Digits t k rest → Digits (t ++ u) k (rest ++ u)
digits_on u t k rest (d, ds, h, all, e, f) = (d, ds, h, all, ap (λ x. x ++ u) e ∙ append_assoc (d ∷ ds) rest u, f)

number_on : (n m : ℕ) (u t : List ℕ) (x : Number) (rest : List ℕ) → IsNumber n t x rest → (y : Number) × IsNumber m (t ++ u) y (rest ++ u) × (y.value ≡ x.value)
number_on n m u t x rest (k, inl (d, e)) = (record { at = m - length (t ++ u); value = pos k }, (k, inl (digits_on u t k rest d, refl)), sym (ap (λ y. y.value) e))
number_on n m u t x rest (k, inr (v, b, d, e)) = (record { at = m - length (t ++ u); value = neg_ℤ (pos k) }, (k, inr (v ++ u, ap (λ y. y ++ u) b, digits_on u v k rest d, refl)), sym (ap (λ y. y.value) e))

point_on : (n m : ℕ) (u t : List ℕ) (p : Point) (rest : List ℕ) → IsPoint n t p rest → (q : Point) × IsPoint m (t ++ u) q (rest ++ u) × (place_of q ≡ place_of p)
point_on n m u t p rest (a, b, h, g, k) =
    let x = number_on n m u t p.x a h in
    let y = number_on n m u b p.y rest k in
    (record { x = x.0; y = y.0 }, (a ++ u, b ++ u, x.1, gap_on u a b g, y.1), λ i. record { x = x.2 i; y = y.2 i })

-- ---- lists of items that may go on so
abbrev GoesOn : {A V : Type 0} → (A → V) → (List ℕ → A → List ℕ → Type 0) → (List ℕ → A → List ℕ → Type 0) → List ℕ → Type 0
GoesOn {A} view Item Other u = (t : List ℕ) (x : A) (rest : List ℕ) → Item t x rest → (y : A) × Other (t ++ u) y (rest ++ u) × (view y ≡ view x)

both_cons : {V : Type 0} (x y : V) (xs ys : List V) → x ≡ y → xs ≡ ys → x ∷ xs ≡ y ∷ ys
both_cons x y xs ys e f = ap (λ v. v ∷ xs) e ∙ ap (λ vs. y ∷ vs) f

more_on : {A V : Type 0} (view : A → V) (Item Other : List ℕ → A → List ℕ → Type 0) (u : List ℕ) → GoesOn view Item Other u → (t : List ℕ) (xs : List A) (rest : List ℕ) → More Item t xs rest → (ys : List A) × More Other (t ++ u) ys (rest ++ u) × (map view ys ≡ map view xs)
more_on view Item Other u on t [] rest s = ([], spaces_on u t (41 ∷ rest) s, refl)
more_on view Item Other u on t (x ∷ xs) rest (a, b, c, s, s', h, k) =
    let y = on b x c h in
    let ys = more_on view Item Other u on c xs rest k in
    (y.0 ∷ ys.0, (a ++ u, b ++ u, c ++ u, spaces_on u t (44 ∷ a) s, spaces_on u a b s', y.1, ys.1), both_cons (view y.0) (view x) (map view ys.0) (map view xs) y.2 ys.2)

listed_on : {A V : Type 0} (view : A → V) (Item Other : List ℕ → A → List ℕ → Type 0) (u : List ℕ) → GoesOn view Item Other u → (t : List ℕ) (xs : List A) (rest : List ℕ) → Listed Item t xs rest → (ys : List A) × Listed Other (t ++ u) ys (rest ++ u) × (map view ys ≡ map view xs)
listed_on view Item Other u on t xs rest (a, b, c, first, others, e, s, h, k, f) =
    let y = on b first c h in
    let ys = more_on view Item Other u on c others rest k in
    (y.0 ∷ ys.0, (a ++ u, b ++ u, c ++ u, y.0, ys.0, ap (λ x. x ++ u) e, spaces_on u a b s, y.1, ys.1, refl), both_cons (view y.0) (view first) (map view ys.0) (map view others) y.2 ys.2 ∙ sym (ap (map view) f))

-- ---- rings, bodies and geometries
ring_on : (n m : ℕ) (u : List ℕ) → GoesOn places (IsRing n) (IsRing m) u
ring_on n m u t r rest (h, e) = let ps = listed_on place_of (IsPoint n) (IsPoint m) u (point_on n m u) t r.points rest h in
    (record { at = m - length (t ++ u); points = ps.0 }, (ps.1, refl), ps.2)

body_on : (n m : ℕ) (u : List ℕ) → GoesOn (map places) (IsBody n) (IsBody m) u
body_on n m u = listed_on places (IsRing n) (IsRing m) u (ring_on n m u)

joined_places : (rss : List (List Ring)) → map places (joined rss) ≡ flat_map (λ x. x) (map (map places) rss)
joined_places [] = refl
joined_places (rs ∷ rss) = map-append places rs (joined rss) ∙ ap (λ x. map places rs ++ x) (joined_places rss)

empty_on : (u t : List ℕ) (rs : List Ring) (rest : List ℕ) → IsEmpty t rs rest → (ss : List Ring) × IsEmpty (t ++ u) ss (rest ++ u) × (map places ss ≡ map places rs)
empty_on u t rs rest (v, g, w, e) = ([], (v ++ u, gap_on u t v g, word_on u empty_word v rest w, refl), sym (ap (map places) e))

single_on : (n m : ℕ) (u : List ℕ) → GoesOn (map places) (IsSingle n) (IsSingle m) u
single_on n m u t rs rest (v, s, h) = let ss = body_on n m u v rs rest h in (ss.0, (v ++ u, spaces_on u t v s, ss.1), ss.2)

multi_on : (n m : ℕ) (u : List ℕ) → GoesOn (map places) (IsMulti n) (IsMulti m) u
multi_on n m u t rs rest (v, rss, s, h, e) = let sss = listed_on (map places) (IsBody n) (IsBody m) u (body_on n m u) v rss rest h in
    (joined sss.0, (v ++ u, sss.0, spaces_on u t v s, sss.1, refl), joined_places sss.0 ∙ ap (flat_map (λ x. x)) sss.2 ∙ sym (joined_places rss) ∙ sym (ap (map places) e))

geometry_on : (n m : ℕ) (u : List ℕ) → GoesOn (map places) (IsGeometry n) (IsGeometry m) u
geometry_on n m u t rs rest (v, inl (w, inl h)) = let ss = single_on n m u v rs rest h in (ss.0, (v ++ u, inl (word_on u polygon_word t v w, inl ss.1)), ss.2)
geometry_on n m u t rs rest (v, inl (w, inr h)) = let ss = empty_on u v rs rest h in (ss.0, (v ++ u, inl (word_on u polygon_word t v w, inr ss.1)), ss.2)
geometry_on n m u t rs rest (v, inr (w, inl h)) = let ss = multi_on n m u v rs rest h in (ss.0, (v ++ u, inr (word_on u multipolygon_word t v w, inl ss.1)), ss.2)
geometry_on n m u t rs rest (v, inr (w, inr h)) = let ss = empty_on u v rs rest h in (ss.0, (v ++ u, inr (word_on u multipolygon_word t v w, inr ss.1)), ss.2)

-- ---- geometries of a text of another length
geometries_at : (n m : ℕ) (t : List ℕ) (rss : List (List Ring)) → Geometries n t rss → (sss : List (List Ring)) × Geometries m (t ++ []) sss × (map (map places) sss ≡ map (map places) rss)
geometries_at n m t [] s = ([], spaces_on [] t [] s, refl)
geometries_at n m t (rs ∷ rss) (a, b, g, h, k) =
    let ss = geometry_on n m [] a rs b h in
    let sss = geometries_at n m b rss k in
    (ss.0 ∷ sss.0, (a ++ [], b ++ [], gap_on [] t a g, ss.1, sss.1), both_cons (map places ss.0) (map places rs) (map (map places) sss.0) (map (map places) rss) ss.2 sss.2)

-- ---- white space, a line feed, and white space
spaces_joined : (t u rest : List ℕ) → Spaces t [] → Spaces u rest → Spaces (t ++ 10 ∷ u) rest
spaces_joined t u rest (s, all, e) (s', all', e') = (
  s ++ 10 ∷ s',
  both_all (λ b. IsTrue (is_space b)) s (10 ∷ s') all (refl, all'),
  ap (λ x. x ++ 10 ∷ u) (e ∙ append-nil s) ∙ ap (λ x. s ++ 10 ∷ x) e' ∙ sym (append_assoc s (10 ∷ s') rest),
)

gap_joined : (t u rest : List ℕ) → Spaces t [] → Spaces u rest → Gap (t ++ 10 ∷ u) rest
gap_joined t u rest ([], all, e) k = (10, u, refl, ap (λ x. x ++ 10 ∷ u) e, k)
gap_joined t u rest (x ∷ xs, all, e) k = (x, xs ++ 10 ∷ u, all.0, ap (λ y. y ++ 10 ∷ u) (e ∙ append-nil (x ∷ xs)), spaces_joined xs u rest (xs, all.1, sym (append-nil xs)) k)

-- ---- the features of both
abbrev Together : List (List Ring) → List (List Ring) → List (List Ring) → Type 0
Together wss rss sss = map (map places) wss ≡ map (map places) rss ++ map (map places) sss

-- the second text's geometries behind those of the first
geometries_then : (n k m : ℕ) (t : List ℕ) (rss : List (List Ring)) (u : List ℕ) (sss : List (List Ring)) → Geometries n t rss → IsFeaturesAt k u sss → (wss : List (List Ring)) × Geometries m (t ++ 10 ∷ u) wss × Together wss rss sss
geometries_then n k m t [] u sss s (inl (s', e)) = ([], spaces_joined t u [] s s', sym (ap (map (map places)) e))
geometries_then n k m t [] u sss s (inr (a, b, first, others, s', h, l, e)) =
    let f = geometry_on k m [] a first b h in
    let o = geometries_at k m b others l in (
      f.0 ∷ o.0,
      (a ++ [], b ++ [], (let P : List ℕ → Type 0 = Gap (t ++ 10 ∷ u) in subst P (sym (append-nil a)) (gap_joined t u a s s')), f.1, o.1),
      both_cons (map places f.0) (map places first) (map (map places) o.0) (map (map places) others) f.2 o.2 ∙ sym (ap (map (map places)) e),
    )
geometries_then n k m t (rs ∷ rss) u sss (a, b, g, h, l) w =
    let f = geometry_on n m (10 ∷ u) a rs b h in
    let o = geometries_then n k m b rss u sss l w in (
      f.0 ∷ o.0,
      (a ++ 10 ∷ u, b ++ 10 ∷ u, gap_on (10 ∷ u) t a g, f.1, o.1),
      both_cons (map places f.0) (map places rs) (map (map places) o.0) (map (map places) rss ++ map (map places) sss) f.2 o.2,
    )

features_then : (n k m : ℕ) (t : List ℕ) (rss : List (List Ring)) (u : List ℕ) (sss : List (List Ring)) → IsFeaturesAt n t rss → IsFeaturesAt k u sss → (wss : List (List Ring)) × IsFeaturesAt m (t ++ 10 ∷ u) wss × Together wss rss sss
features_then n k m t rss u sss (inl (s, e)) (inl (s', e')) =
    ([], inl (spaces_joined t u [] s s', refl), sym (ap (λ x. map (map places) x ++ map (map places) sss) e ∙ ap (map (map places)) e'))
features_then n k m t rss u sss (inl (s, e)) (inr (a, b, first, others, s', h, l, e')) =
    let f = geometry_on k m [] a first b h in
    let o = geometries_at k m b others l in (
      f.0 ∷ o.0,
      inr (a ++ [], b ++ [], f.0, o.0, (let P : List ℕ → Type 0 = Spaces (t ++ 10 ∷ u) in subst P (sym (append-nil a)) (spaces_joined t u a s s')), f.1, o.1, refl),
      both_cons (map places f.0) (map places first) (map (map places) o.0) (map (map places) others) f.2 o.2 ∙ sym (ap (map (map places)) e') ∙ sym (ap (λ x. map (map places) x ++ map (map places) sss) e),
    )
features_then n k m t rss u sss (inr (a, b, first, others, s, h, l, e)) w =
    let f = geometry_on n m (10 ∷ u) a first b h in
    let o = geometries_then n k m b others u sss l w in (
      f.0 ∷ o.0,
      inr (a ++ 10 ∷ u, b ++ 10 ∷ u, f.0, o.0, spaces_on (10 ∷ u) t a s, f.1, o.1, refl),
      both_cons (map places f.0) (map places first) (map (map places) o.0) (map (map places) others ++ map (map places) sss) f.2 o.2 ∙ sym (ap (λ x. map (map places) x ++ map (map places) sss) e),
    )

-- and their rings
joined_together : (wss rss sss : List (List Ring)) → Together wss rss sss → map places (joined wss) ≡ map places (joined rss) ++ map places (joined sss)
joined_together wss rss sss e =
    joined_places wss ∙ ap (flat_map (λ x. x)) e ∙ flat_map-append (λ (x : List (List Pt)). x) (map (map places) rss) (map (map places) sss)
    ∙ ap (λ x. x ++ flat_map (λ x. x) (map (map places) sss)) (sym (joined_places rss)) ∙ ap (λ x. map places (joined rss) ++ x) (sym (joined_places sss))

-- ---- nothing is wrong with rings whose points are right

none_both : (b c : Bool) (k l : ℕ) (o : Option ℕ) → b ≡ false → c ≡ false → o ≡ None → cond b (Some k) (cond c (Some l) o) ≡ None
none_both true c k l o e f g = absurd cc
none_both false true k l o e f g = absurd cc
none_both false false k l o e f g = g

outside_none : (ps : List Point) → AllByRecursion InLimit (map place_of ps) → first_outside (numbers ps) ≡ None
outside_none [] h = refl
outside_none (p ∷ ps) h = none_both (nat_lt coordinate_limit (unsigned_abs p.x.value)) (nat_lt coordinate_limit (unsigned_abs p.y.value)) p.x.at p.y.at (first_outside (numbers ps)) (of_within p.x.value h.0.x_in) (of_within p.y.value h.0.y_in) (outside_none ps h.1)

rings_inside : (ws : List Ring) → first_outside (all_numbers ws) ≡ None → AllByRecursion (AllByRecursion InLimit) (map places ws)
rings_inside [] e = tt
rings_inside (r ∷ rest) e = let h = front_inside (numbers r.points) (all_numbers rest) e in (points_in r.points h.0, rings_inside rest h.1)

inside_rings : (ws : List Ring) → AllByRecursion (AllByRecursion InLimit) (map places ws) → first_outside (all_numbers ws) ≡ None
inside_rings [] h = refl
inside_rings (r ∷ rest) h = outside_then (numbers r.points) (all_numbers rest) (outside_none r.points h.0) ∙ inside_rings rest h.1

abbrev IsSound : List Pt → Type 0
IsSound ps = fault_at 0 ps ≡ None

elsewhere : (b c : Bool) (at to : ℕ) → cond b (Some (RingShort at)) (cond c None (Some (RingOpen at))) ≡ None → cond b (Some (RingShort to)) (cond c None (Some (RingOpen to))) ≡ None
elsewhere true c at to e = absurd cc
elsewhere false true at to e = refl
elsewhere false false at to e = absurd cc

rings_sound : (ws : List Ring) → first_fault ws ≡ None → AllByRecursion IsSound (map places ws)
rings_sound [] e = tt
rings_sound (r ∷ rest) e = let h = none_first (fault_at r.at (places r)) (first_fault rest) e in (elsewhere (nat_lt (length (places r)) 4) (is_closed (places r)) r.at 0 h.0, rings_sound rest h.1)

or_none : (a b : Option Fault) → a ≡ None → b ≡ None → or_else a b ≡ None
or_none None b e f = f
or_none (Some x) b e f = absurd cc

sound_rings : (ws : List Ring) → AllByRecursion IsSound (map places ws) → first_fault ws ≡ None
sound_rings [] h = refl
sound_rings (r ∷ rest) h = or_none (fault_at r.at (places r)) (first_fault rest) (elsewhere (nat_lt (length (places r)) 4) (is_closed (places r)) 0 r.at h.0) (sound_rings rest h.1)

-- ---- the points of the rings, without the last of each

abbrev opened : List Pt → List Pt
opened ps = take (length ps - 1) ps

plain_is : (ws : List Ring) → plain ws ≡ map opened (map places ws)
plain_is [] = refl
plain_is (r ∷ rest) = both_cons (take (length r.points - 1) (places r)) (opened (places r)) (plain rest) (map opened (map places rest)) (ap (λ n. take (n - 1) (places r)) (sym (length-map r.points place_of))) (plain_is rest)

plains_are : (wss : List (List Ring)) → map plain wss ≡ map (map opened) (map (map places) wss)
plains_are [] = refl
plains_are (ws ∷ wss) = both_cons (plain ws) (map opened (map places ws)) (map plain wss) (map (map opened) (map (map places) wss)) (plain_is ws) (plains_are wss)

-- ---- the text of both parts

layer_of : (text : List ℕ) (fs : List (List Ring)) → HasFeatures text fs → IsLayer text (joined fs)
unfolding IsLayer HasFeatures
layer_of text fs (inl (s, e)) = inl (s, ap joined e)
layer_of text fs (inr (u, v, first, others, s, item, more, e)) = inr (u, v, first, others, s, item, more, ap joined e)

both_features : (t u : List ℕ) (rss sss : List (List Ring)) → HasFeatures t rss → HasFeatures u sss → (wss : List (List Ring)) × HasFeatures (t ++ 10 ∷ u) wss × Together wss rss sss
unfolding HasFeatures
both_features t u rss sss h k = features_then (length t) (length u) (length (t ++ 10 ∷ u)) t rss u sss h k

pub features_parted : (t u : List ℕ) (features more : List (List (List Pt))) → StandsForFeatures t features → StandsForFeatures u more → StandsForFeatures (t ++ 10 ∷ u) (features ++ more)
features_parted t u features more (rss, h, a, e) (sss, k, b, f) =
    (ws.0, ws.1, record { layer = layer_of (t ++ 10 ∷ u) ws.0 ws.1; inside = inside; sound = sound }, is)
  where
    ws : (wss : List (List Ring)) × HasFeatures (t ++ 10 ∷ u) wss × Together wss rss sss
    ws = both_features t u rss sss h k

    rings : map places (joined ws.0) ≡ map places (joined rss) ++ map places (joined sss)
    rings = joined_together ws.0 rss sss ws.2

    inside : first_outside (all_numbers (joined ws.0)) ≡ None
    inside = inside_rings (joined ws.0) (subst (AllByRecursion (AllByRecursion InLimit)) (sym rings) (both_all (AllByRecursion InLimit) (map places (joined rss)) (map places (joined sss)) (rings_inside (joined rss) a.inside) (rings_inside (joined sss) b.inside)))

    sound : first_fault (joined ws.0) ≡ None
    sound = sound_rings (joined ws.0) (subst (AllByRecursion IsSound) (sym rings) (both_all IsSound (map places (joined rss)) (map places (joined sss)) (rings_sound (joined rss) a.sound) (rings_sound (joined sss) b.sound)))

    is : map plain ws.0 ≡ features ++ more
    is = plains_are ws.0 ∙ ap (map (map opened)) ws.2 ∙ map-append (map opened) (map (map places) rss) (map (map places) sss)
        ∙ ap (λ x. x ++ map (map opened) (map (map places) sss)) (sym (plains_are rss) ∙ e) ∙ ap (λ x. features ++ x) (sym (plains_are sss) ∙ f)

pub parted : (t u : List ℕ) (rings more : List (List Pt)) → StandsFor t rings → StandsFor u more → StandsFor (t ++ 10 ∷ u) (rings ++ more)
parted t u rings more h k =
    let f = stands_apart t rings h in
    let g = stands_apart u more k in
    let is : all_rings (f.0 ++ g.0) ≡ rings ++ more = flat_map-append (λ (x : List (List Pt)). x) f.0 g.0 ∙ ap (λ x. x ++ all_rings g.0) f.2 ∙ ap (λ x. rings ++ x) g.2 in
    subst (StandsFor (t ++ 10 ∷ u)) is (stands_joined (t ++ 10 ∷ u) (f.0 ++ g.0) (features_parted t u f.0 g.0 f.1 g.1))
