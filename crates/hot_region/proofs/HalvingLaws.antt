-- Hot pixels of a rectangle are those of its halves, each found among the lines that may pass it.
use Rattle.std.proofs.Common.{◌≡◌, ◌⊎◌, inl, inr, ℕ, ◌+◌, ◌<◌, List, [], ◌∷◌, ◌++◌, refl, sym, ◌∙◌, ap, arith, subst, length, get_or, take, drop, ◌↔◌, ⊎_elim}
use Rattle.std.proofs.Math.IntN.{ℤ, pos, neg_ℤ, ◌+ℤ◌}
use Rattle.std.specs.Int.{int_min, int_max}
use Rattle.std.specs.Prelude.{All, Contains, ◌<ℤ◌, ◌≤ℤ◌}
use Rattle.std.proofs.lemmas.Int.{ints, clamps, by_lt_z}
use Rattle.std.proofs.Math.ListN.{get_or-map}
use Rattle.std.proofs.lemmas.List.{length-map, take-map, take-append-drop}
use Rattle.std.proofs.lemmas.List.Elements.{All-contains, Contains-push, Contains-push_cases, Contains-get_or, Contains-append_left}
use Rattle.geom.proofs.Integers.{linear}
use Rattle.geom.specs.declared.point.Pt.{Pt}
use Rattle.geom.specs.declared.rect.Rect.{Rect}
use Rattle.geom.specs.declared.segment.Seg.{Seg}
use Rattle.geom.specs.declared.edge.Edge.{Edge}
use Rattle.geom.specs.Route.{Meets}
use Rattle.geom.specs.Limit.{InLimit, AreInLimit, IsWithin, coordinate_limit}
use Rattle.hot_region.specs.declared.lines.Line.{Line}
use Rattle.hot_region.specs.Lines.{IsLine, CrossAt, HasPushed, HasAllCrossed}
use Rattle.hot_region.specs.Rects.{IsIn}
use Rattle.hot_region.specs.Candidates.{AreOwnedHot}
use Rattle.hot_region.specs.Halving.{IsMetOn, IsEndOf, IsCrossing, IsHotFor, HasEndsToo, HasHot, HasHotInside, AreHalves, AreParts, AreReaching, IsPartInLimit, edges_of}
use Rattle.hot_region.proofs.ListLaws.{none_in, in_push, in_take_more, in_map}
use Rattle.hot_region.proofs.HotLaws.{meets_start, meets_end, first_meets, second_meets, met_line, hot_limit}
use Rattle.hot_region.proofs.LineLaws.{same_line, segment_of, segment_line}

-- ---- lines meet the pixels of their ends and of their crossings
pub met_on : (e : Edge) (s : Seg) (c : Pt) → IsLine e s → Meets s c → IsMetOn e c
met_on e s c on h = record { meets = λ t at. met_line s t c (same_line e s t on at) h }

at_p : (e : Edge) (s : Seg) (c : Pt) → IsLine e s → e.p ≡ c → Meets s c
at_p e s c (inl (p, q)) k = meets_start s c (sym p ∙ k)
at_p e s c (inr (p, q)) k = meets_end s c (sym p ∙ k)

at_q : (e : Edge) (s : Seg) (c : Pt) → IsLine e s → e.q ≡ c → Meets s c
at_q e s c (inl (p, q)) k = meets_end s c (sym q ∙ k)
at_q e s c (inr (p, q)) k = meets_start s c (sym q ∙ k)

pub end_met : (e : Edge) (c : Pt) → (e.p ≡ c) ⊎ (e.q ≡ c) → IsMetOn e c
end_met e c (inl k) = record { meets = λ s on. at_p e s c on k }
end_met e c (inr k) = record { meets = λ s on. at_q e s c on k }

pub first_met : (e f : Edge) (c : Pt) → CrossAt e f c → IsMetOn e c
first_met e f c h = record { meets = λ s on. first_meets s (segment_of f) c (h.cross s (segment_of f) on (segment_line f)) }

pub second_met : (e f : Edge) (c : Pt) → CrossAt e f c → IsMetOn f c
second_met e f c h = record { meets = λ s on. second_meets (segment_of e) s c (h.cross (segment_of e) s (segment_line e) on) }

-- ---- other lines
end_in : (xs ys : List Edge) (c : Pt) → ((e : Edge) → Contains xs e → IsMetOn e c → Contains ys e) → IsEndOf xs c → IsEndOf ys c
end_in xs ys c h k = record { e = k.e; listed = h k.e k.listed (end_met k.e c k.is_end); is_end = k.is_end }

crossing_in : (xs ys : List Edge) (c : Pt) → ((e : Edge) → Contains xs e → IsMetOn e c → Contains ys e) → IsCrossing xs c → IsCrossing ys c
crossing_in xs ys c h k = record {
  e = k.e;
  f = k.f;
  e_listed = h k.e k.e_listed (first_met k.e k.f c k.crosses);
  f_listed = h k.f k.f_listed (second_met k.e k.f c k.crosses);
  crosses = k.crosses;
}

-- a pixel that is hot for lines is hot for all lists that have those of them that meet it
pub hot_for : (xs ys : List Edge) (c : Pt) → ((e : Edge) → Contains xs e → IsMetOn e c → Contains ys e) → IsHotFor xs c → IsHotFor ys c
hot_for xs ys c h (inl k) = inl (end_in xs ys c h k)
hot_for xs ys c h (inr k) = inr (crossing_in xs ys c h k)

-- ---- lines and their edges
pub edge_in : (lines : List Line) (l : Line) → Contains lines l → Contains (edges_of lines) l.edge
edge_in lines l h = (in_map (λ (m : Line). m.edge) lines l.edge).1 (l, h, refl)

pub line_at : (lines : List Line) (e : Edge) → Contains (edges_of lines) e → (l : Line) × Contains lines l × (l.edge ≡ e)
line_at lines e h = (in_map (λ (m : Line). m.edge) lines e).0 h

-- a line that is read in order, by its edge
pub edge_at : (lines : List Line) (i : ℕ) (l : Line) → l ≡ get_or lines i l → l.edge ≡ get_or (edges_of lines) i l.edge
edge_at lines i l is = ap (λ (m : Line). m.edge) is ∙ sym (get_or-map (λ (m : Line). m.edge) lines i l)

pub edge_below : (lines : List Line) (i : ℕ) → i < length lines → i < length (edges_of lines)
edge_below lines i l = let e = length-map lines (λ (m : Line). m.edge) in omega arith

pub edges_taken : (lines : List Line) (i : ℕ) → take i (edges_of lines) ≡ edges_of (take i lines)
edges_taken lines i = take-map (λ (m : Line). m.edge) i lines

module _ (Inside : Pt → Type 0) (lines part : List Line) (are : AreReaching Inside lines part) where
  pub hot_whole : (c : Pt) → IsHotFor (edges_of part) c → IsHotFor (edges_of lines) c
  hot_whole c = hot_for (edges_of part) (edges_of lines) c (λ e h m. let r = line_at part e h in subst (λ (f : Edge). Contains (edges_of lines) f) r.2 (edge_in lines r.0 (are.among r.0 r.1)))

  pub hot_part : (c : Pt) → Inside c → IsHotFor (edges_of lines) c → IsHotFor (edges_of part) c
  hot_part c t = hot_for (edges_of lines) (edges_of part) c (λ e h m. let r = line_at lines e h in subst (λ (f : Edge). Contains (edges_of part) f) r.2 (edge_in part r.0 (are.complete r.0 c r.1 t (subst (λ (f : Edge). IsMetOn f c) (sym r.2) m))))

-- ---- two parts unite
pub parts_unite : (Inside First Second : Pt → Type 0) (lines part rest : List Line) (old mid new : List Pt) → AreParts Inside First Second → AreReaching First lines part → AreReaching Second lines rest → HasHotInside First (edges_of part) old mid → HasHotInside Second (edges_of rest) mid new → HasHotInside Inside (edges_of lines) old new
parts_unite Inside First Second lines part rest old mid new parts in_first in_second h g = record { same = λ c. (to c, from c) }
  where
    to : (c : Pt) → Contains new c → Contains old c ⊎ (IsHotFor (edges_of lines) c × Inside c)
    to c k = ⊎_elim
        (λ m. ⊎_elim (λ n. inl n) (λ n. inr (hot_whole First lines part in_first c n.0, (parts.same c).1 (inl n.1))) ((h.same c).0 m))
        (λ n. inr (hot_whole Second lines rest in_second c n.0, (parts.same c).1 (inr n.1)))
        ((g.same c).0 k)

    from : (c : Pt) → Contains old c ⊎ (IsHotFor (edges_of lines) c × Inside c) → Contains new c
    from c k = ⊎_elim
        (λ m. (g.same c).1 (inl ((h.same c).1 (inl m))))
        (λ m. ⊎_elim
        (λ t. (g.same c).1 (inl ((h.same c).1 (inr (hot_part First lines part in_first c t m.0, t)))))
        (λ t. (g.same c).1 (inr (hot_part Second lines rest in_second c t m.0, t)))
        ((parts.same c).0 m.1))
        k

-- ---- by brute force
pub found_all : (rect : Rect) (lines : List Edge) (old mid new : List Pt) → HasEndsToo rect lines old mid → HasAllCrossed rect lines mid new → HasHot rect lines old new
found_all rect lines old mid new h g = record { same = λ c. (to c, from c) }
  where
    to : (c : Pt) → Contains new c → Contains old c ⊎ (IsHotFor lines c × IsIn rect c)
    to c k = ⊎_elim
        (λ m. ⊎_elim (λ n. inl n) (λ n. inr (inl n.0, n.1)) ((h.same c).0 m))
        (λ m. inr (inr (record { e = m.0.0; f = m.0.1; e_listed = m.0.2; f_listed = m.0.3; crosses = m.0.4 }), m.1))
        (g.only c k)

    from : (c : Pt) → Contains old c ⊎ (IsHotFor lines c × IsIn rect c) → Contains new c
    from c (inl m) = g.kept c ((h.same c).1 (inl m))
    from c (inr (inl k, t)) = g.kept c ((h.same c).1 (inr (k, t)))
    from c (inr (inr k, t)) = g.all k.e k.f c k.e_listed k.f_listed k.crosses t

-- ---- segments of lines

final_in : (e : Edge) (s : Seg) (c : Pt) → IsLine e s → s.b ≡ c → (e.p ≡ c) ⊎ (e.q ≡ c)
final_in e s c (inl (p, q)) k = inr (q ∙ k)
final_in e s c (inr (p, q)) k = inl (p ∙ k)

-- ---- the lines that may pass, as they are found
pub part_none : (Inside : Pt → Type 0) → AreReaching Inside [] []
part_none Inside = record { among = λ l h. h; complete = λ l c h t m. h }

module _ (Inside : Pt → Type 0) (lines : List Line) (i : ℕ) (e : Line) (part : List Line) (l : i < length lines) (is : e ≡ get_or lines i e) where
  more : (x : Line) → Contains (take (i + 1) lines) x ↔ (Contains (take i lines) x ⊎ (e ≡ x))
  more x = in_take_more lines i e l is x

  pub part_push : AreReaching Inside (take i lines) part → AreReaching Inside (take (i + 1) lines) (part ++ e ∷ [])
  part_push h = record {
    among = λ x k. (more x).1 (⊎_elim (λ m. inl (h.among x m)) (λ m. inr m) (Contains-push_cases part e x k));
    complete = λ x c k t m. ⊎_elim (λ n. in_push part x e (h.complete x c n t m)) (λ n. subst (λ (y : Line). Contains (part ++ e ∷ []) y) n (Contains-push part e)) ((more x).0 k);
  }

  pub part_skip : ((c : Pt) → Inside c → IsMetOn e.edge c → ⊥) → AreReaching Inside (take i lines) part → AreReaching Inside (take (i + 1) lines) part
  part_skip none h = record {
    among = λ x k. (more x).1 (inl (h.among x k));
    complete = λ x c k t m. ⊎_elim (λ n. h.complete x c n t m) (λ n. absurd (none c t (subst (λ (y : Line). IsMetOn y.edge c) (sym n) m))) ((more x).0 k);
  }

-- ---- halves
pub halves_by_x : (r f s : Rect) (m : ℤ) → f.lo.x ≡ r.lo.x → f.lo.y ≡ r.lo.y → f.hi.x ≡ m → f.hi.y ≡ r.hi.y → s.lo.x ≡ (m +ℤ pos 1) → s.lo.y ≡ r.lo.y → s.hi.x ≡ r.hi.x → s.hi.y ≡ r.hi.y → r.lo.x ≤ℤ m → m <ℤ r.hi.x → AreHalves r f s
halves_by_x r f s m a b d e g h i j k l = record {
  same = λ c. (
    (λ t. by_lt_z m c.x
        (λ n. inr (let u = t.right in let v = t.bottom in let w = t.top in record { left = omega (arith, ints); right = omega (arith, linear); bottom = omega (arith, linear); top = omega (arith, linear) }))
        (λ n. inl (let u = t.left in let v = t.bottom in let w = t.top in record { left = omega (arith, linear); right = omega (arith, linear); bottom = omega (arith, linear); top = omega (arith, linear) }))),
    (λ t. ⊎_elim
        (λ n. let u = n.left in let u' = n.right in let v = n.bottom in let w = n.top in record { left = omega (arith, linear); right = omega (arith, linear); bottom = omega (arith, linear); top = omega (arith, linear) })
        (λ n. let u = n.left in let u' = n.right in let v = n.bottom in let w = n.top in record { left = omega (arith, ints); right = omega (arith, linear); bottom = omega (arith, linear); top = omega (arith, linear) })
        t),
  );
}

pub halves_by_y : (r f s : Rect) (m : ℤ) → f.lo.x ≡ r.lo.x → f.lo.y ≡ r.lo.y → f.hi.x ≡ r.hi.x → f.hi.y ≡ m → s.lo.x ≡ r.lo.x → s.lo.y ≡ (m +ℤ pos 1) → s.hi.x ≡ r.hi.x → s.hi.y ≡ r.hi.y → r.lo.y ≤ℤ m → m <ℤ r.hi.y → AreHalves r f s
halves_by_y r f s m a b d e g h i j k l = record {
  same = λ c. (
    (λ t. by_lt_z m c.y
        (λ n. inr (let u = t.left in let v = t.right in let w = t.top in record { left = omega (arith, linear); right = omega (arith, linear); bottom = omega (arith, ints); top = omega (arith, linear) }))
        (λ n. inl (let u = t.left in let v = t.right in let w = t.bottom in record { left = omega (arith, linear); right = omega (arith, linear); bottom = omega (arith, linear); top = omega (arith, linear) }))),
    (λ t. ⊎_elim
        (λ n. let u = n.left in let u' = n.right in let v = n.bottom in let w = n.top in record { left = omega (arith, linear); right = omega (arith, linear); bottom = omega (arith, linear); top = omega (arith, linear) })
        (λ n. let u = n.left in let u' = n.right in let v = n.bottom in let w = n.top in record { left = omega (arith, linear); right = omega (arith, linear); bottom = omega (arith, ints); top = omega (arith, linear) })
        t),
  );
}

-- ---- all pairs, line by line
-- ---- the ends of lines, added to what was found
pub add_ends_none : (tile : Rect) (old : List Pt) → HasEndsToo tile [] old old
add_ends_none tile old = record { same = λ c. (λ h. inl h, λ h. ⊎_elim (λ k. k) (λ k. absurd (none_in k.0.e k.0.listed)) h) }

pub add_ends_more : (tile : Rect) (lines : List Edge) (i : ℕ) (e : Edge) (old found mid new : List Pt) → i < length lines → e ≡ get_or lines i e → HasEndsToo tile (take i lines) old found → HasPushed tile e.p found mid → HasPushed tile e.q mid new → HasEndsToo tile (take (i + 1) lines) old new
add_ends_more tile lines i e old found mid new l is h f g = record { same = λ c. (to c, from c) }
  where
    more : (x : Edge) → Contains (take (i + 1) lines) x ↔ (Contains (take i lines) x ⊎ (e ≡ x))
    more x = in_take_more lines i e l is x

    here_e : Contains (take (i + 1) lines) e
    here_e = (more e).1 (inr refl)

    to : (c : Pt) → Contains new c → Contains old c ⊎ (IsEndOf (take (i + 1) lines) c × IsIn tile c)
    to c k = ⊎_elim
        (λ m. ⊎_elim (λ n. ⊎_elim (λ o. inl o) (λ o. inr (record { e = o.0.e; listed = (more o.0.e).1 (inl o.0.listed); is_end = o.0.is_end }, o.1)) ((h.same c).0 n)) (λ n. inr (record { e = e; listed = here_e; is_end = inl n.0 }, n.1)) ((f.same c).0 m))
        (λ n. inr (record { e = e; listed = here_e; is_end = inr n.0 }, n.1))
        ((g.same c).0 k)

    from : (c : Pt) → Contains old c ⊎ (IsEndOf (take (i + 1) lines) c × IsIn tile c) → Contains new c
    from c (inl k) = (g.same c).1 (inl ((f.same c).1 (inl ((h.same c).1 (inl k)))))
    from c (inr (k, t)) = ⊎_elim
        (λ m. (g.same c).1 (inl ((f.same c).1 (inl ((h.same c).1 (inr (record { e = k.e; listed = m; is_end = k.is_end }, t)))))))
        (λ m. ⊎_elim
        (λ n. (g.same c).1 (inl ((f.same c).1 (inr (ap (λ (y : Edge). y.p) m ∙ n, t)))))
        (λ n. (g.same c).1 (inr (ap (λ (y : Edge). y.q) m ∙ n, t))) k.is_end)
        ((more k.e).0 k.listed)

-- ---- a tile
limit_all : (L : List Seg) → ((s : Seg) → Contains L s → AreInLimit s.a s.b) → All (λ s. AreInLimit s.a s.b) L
limit_all L h = λ k d l. h (get_or L k d) (Contains-get_or L k d l)

pub tile_none : (tile : Rect) (L : List Seg) → ((s : Seg) → Contains L s → AreInLimit s.a s.b) → ((c : Pt) → InLimit c → IsIn tile c → ⊥) → AreOwnedHot (IsIn tile) L []
tile_none tile L limits none = record { ascending = λ i j d a b. absurd (omega arith); exact = λ c. ((λ k. absurd (none_in c k)), (λ k. absurd (none c (hot_limit L c (limit_all L limits) k.0) k.1))) }

-- what holds of all lines holds of a part of them
pub part_all : (P : Line → Type 0) (Inside : Pt → Type 0) (lines part : List Line) → AreReaching Inside lines part → All P lines → All P part
part_all P Inside lines part h all = λ k d l. All-contains P lines (get_or part k d) all (h.among (get_or part k d) (Contains-get_or part k d l))

pub taken_in : (xs : List Edge) (i : ℕ) (e : Edge) → Contains (take i xs) e → Contains xs e
taken_in xs i e h = subst (λ (es : List Edge). Contains es e) (take-append-drop i xs) (Contains-append_left (take i xs) (drop i xs) e h)

-- ---- one pixel
pub one_found : (rect : Rect) (edges : List Edge) (old found : List Pt) (whole : List Edge) → ((c : Pt) → IsIn rect c → Contains found c) → ((e : Edge) → Contains edges e → Contains whole e) → HasAllCrossed rect edges old found → HasAllCrossed rect whole old found
one_found rect edges old found whole has widen h = record {
  kept = h.kept;
  only = λ c k. ⊎_elim (λ m. inl m) (λ m. inr ((m.0.0, m.0.1, widen m.0.0 m.0.2, widen m.0.1 m.0.3, m.0.4), m.1)) (h.only c k);
  all = λ e f c k l a t. has c t;
}

pub in_one : (rect : Rect) (p : Pt) → rect.lo ≡ p → rect.lo ≡ rect.hi → (c : Pt) → IsIn rect c → p ≡ c
in_one rect p e f c h =
    let a : rect.lo.x ≡ rect.hi.x = ap (λ (q : Pt). q.x) f in
    let b : rect.lo.y ≡ rect.hi.y = ap (λ (q : Pt). q.y) f in
    let u : rect.lo.x ≡ c.x = let l = h.left in let r = h.right in omega (arith, linear) in
    let v : rect.lo.y ≡ c.y = let l = h.bottom in let r = h.top in omega (arith, linear) in
    sym e ∙ (λ i. record { x = u i; y = v i })

-- ---- a span cut to the coordinate limit
pub clip_limits : (lo hi l h : ℤ) → l ≡ int_max lo (neg_ℤ (pos coordinate_limit)) → h ≡ int_min hi (pos coordinate_limit) → l ≤ℤ h → IsWithin coordinate_limit l × IsWithin coordinate_limit h
clip_limits lo hi l h e f k = (record { low = omega (arith, ints, clamps); high = omega (arith, ints, clamps) }, record { low = omega (arith, ints, clamps); high = omega (arith, ints, clamps) })

pub clip_out : (lo hi l h x : ℤ) → l ≡ int_max lo (neg_ℤ (pos coordinate_limit)) → h ≡ int_min hi (pos coordinate_limit) → l ≤ℤ x → x ≤ℤ h → (lo ≤ℤ x) × (x ≤ℤ hi)
clip_out lo hi l h x e f a b = (omega (arith, ints, clamps), omega (arith, ints, clamps))

pub clip_in : (lo hi l h x : ℤ) → l ≡ int_max lo (neg_ℤ (pos coordinate_limit)) → h ≡ int_min hi (pos coordinate_limit) → IsWithin coordinate_limit x → lo ≤ℤ x → x ≤ℤ hi → (l ≤ℤ x) × (x ≤ℤ h)
clip_in lo hi l h x e f i a b = (omega (arith, ints, clamps), omega (arith, ints, clamps))

pub clip_empty : (lo hi l h x : ℤ) → l ≡ int_max lo (neg_ℤ (pos coordinate_limit)) → h ≡ int_min hi (pos coordinate_limit) → h <ℤ l → IsWithin coordinate_limit x → lo ≤ℤ x → x ≤ℤ hi → ⊥
clip_empty lo hi l h x e f k i a b = omega (arith, ints, clamps)

pub part_by : (r part : Rect) (l b h t : ℤ) → part.lo.x ≡ l → part.lo.y ≡ b → part.hi.x ≡ h → part.hi.y ≡ t
    → l ≡ int_max r.lo.x (neg_ℤ (pos coordinate_limit)) → b ≡ int_max r.lo.y (neg_ℤ (pos coordinate_limit)) → h ≡ int_min r.hi.x (pos coordinate_limit) → t ≡ int_min r.hi.y (pos coordinate_limit) → l ≤ℤ h → b ≤ℤ t → IsPartInLimit r part
part_by r part l b h t el eb eh et l_is b_is h_is t_is wide high =
    let x = clip_limits r.lo.x r.hi.x l h l_is h_is wide in
    let y = clip_limits r.lo.y r.hi.y b t b_is t_is high in
    record {
      within = record {
        a_in = record { x_in = subst (λ (z : ℤ). IsWithin coordinate_limit z) (sym el) x.0; y_in = subst (λ (z : ℤ). IsWithin coordinate_limit z) (sym eb) y.0 };
        b_in = record { x_in = subst (λ (z : ℤ). IsWithin coordinate_limit z) (sym eh) x.1; y_in = subst (λ (z : ℤ). IsWithin coordinate_limit z) (sym et) y.1 };
      };
      only = λ p k.
          let u = clip_out r.lo.x r.hi.x l h p.x l_is h_is (subst (λ (z : ℤ). z ≤ℤ p.x) el k.left) (subst (λ (z : ℤ). p.x ≤ℤ z) eh k.right) in
          let v = clip_out r.lo.y r.hi.y b t p.y b_is t_is (subst (λ (z : ℤ). z ≤ℤ p.y) eb k.bottom) (subst (λ (z : ℤ). p.y ≤ℤ z) et k.top) in
          record { left = u.0; right = u.1; bottom = v.0; top = v.1 };
      all = λ p i k.
          let u = clip_in r.lo.x r.hi.x l h p.x l_is h_is i.x_in k.left k.right in
          let v = clip_in r.lo.y r.hi.y b t p.y b_is t_is i.y_in k.bottom k.top in
          record { left = subst (λ (z : ℤ). z ≤ℤ p.x) (sym el) u.0; right = subst (λ (z : ℤ). p.x ≤ℤ z) (sym eh) u.1; bottom = subst (λ (z : ℤ). z ≤ℤ p.y) (sym eb) v.0; top = subst (λ (z : ℤ). p.y ≤ℤ z) (sym et) v.1 };
    }
