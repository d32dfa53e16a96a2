-- What routes have in regions: that it is one, and how it is parted at a border.
use Rattle.std.proofs.Common.{◌≡◌, ◌∙◌, ℕ, ◌+◌, List, [], ◌∷◌, ◌++◌, Bool, refl, sym, ap, subst, arith, ⊎_elim}
use Rattle.std.proofs.lemmas.Bool.{cases_eq, eq-eqb, eqb-true, lt-ltb, ltb-true}
use Rattle.std.proofs.lemmas.List.Elements.{All-head, All-tail, Contains-append_cases, Contains-append_left, Contains-append_right}
use Rattle.std.proofs.lemmas.List.Kept.{AllPairs-filter}
use Rattle.std.specs.List.{AllZip}
use Rattle.std.specs.Prelude.{◌<◌, ◌≤◌, ◌↔◌, ℤ, All, AllPairs, Contains, filter, nat_eq, nat_lt}
use Rattle.geom.specs.declared.point.Pt.{Pt}
use Rattle.geom.specs.declared.segment.Seg.{Seg}
use Rattle.geom.specs.Hot.{IsHot}
use Rattle.geom.specs.Order.{IsBefore}
use Rattle.geom.specs.Route.{IsEarlier, Meets}
use Rattle.geom.proofs.Pixels.{meets_in, piece}
use Rattle.geom.proofs.RouteLaws.{earlier_in}
use Rattle.geom.proofs.Routes.{not_both}
use Rattle.hot_region.proofs.ListLaws.{from_cons, head_pair, here, in_cons, in_filter, none_in, pairs_cons, tail_pairs}
use Rattle.strips_law.specs.declared.line.Line.{Line}
use Rattle.strips_law.specs.Strips.{IsFrom, IsInStrip, IsRouteIn, strip_at}
use Rattle.strips_law.proofs.Columns.{earlier_by_strip}

-- ---- lists

pub pairs_append : {X : Type 0} (R : X → X → Type 0) (xs ys : List X) → AllPairs R xs → AllPairs R ys → ((x y : X) → Contains xs x → Contains ys y → R x y) → AllPairs R (xs ++ ys)
pairs_append R [] ys h k f = k
pairs_append R (x ∷ xs) ys h k f = pairs_cons R x (xs ++ ys)
    (λ c i. ⊎_elim (λ j. head_pair R x xs c h j) (λ j. f x c (0, omega arith, refl) j) (Contains-append_cases xs ys c i))
    (pairs_append R xs ys (tail_pairs R x xs h) k (λ u v i j. f u v (in_cons x xs u i) j))

-- a list in order is known by its members
pub same_list : {X : Type 0} (R : X → X → Type 0) (xs ys : List X) → ((x y : X) → Contains xs x → Contains xs y → R x y → R y x → ⊥) → AllPairs R xs → AllPairs R ys
    → ((x : X) → Contains xs x → Contains ys x) → ((x : X) → Contains ys x → Contains xs x) → xs ≡ ys
same_list R [] [] never p q f g = refl
same_list R [] (y ∷ ys) never p q f g = absurd (none_in y (g y (here y ys)))
same_list R (x ∷ xs) [] never p q f g = absurd (none_in x (f x (here x xs)))
same_list {X} R (x ∷ xs) (y ∷ ys) never p q f g = ap (λ z. z ∷ xs) same ∙ ap (λ zs. y ∷ zs) (same_list R xs ys (λ u v i j. never u v (in_cons x xs u i) (in_cons x xs v j)) (tail_pairs R x xs p) (tail_pairs R y ys q) to from)
  where
    same : x ≡ y
    same = ⊎_elim (λ e. sym e)
        (λ i. ⊎_elim (λ e. e) (λ j. absurd (never x y (here x xs) (in_cons x xs y j) (head_pair R x xs y p j) (head_pair R y ys x q i))) (from_cons x xs y (g y (here y ys))))
        (from_cons y ys x (f x (here x xs)))

    -- neither is before itself
    not_again : (z : X) → x ≡ z → R x z → ⊥
    not_again z e h = let o : R x x = subst (λ w. R x w) (sym e) h in never x x (here x xs) (here x xs) o o

    to : (z : X) → Contains xs z → Contains ys z
    to z i = ⊎_elim (λ e. absurd (not_again z (same ∙ e) (head_pair R x xs z p i))) (λ j. j) (from_cons y ys z (f z (in_cons x xs z i)))

    from : (z : X) → Contains ys z → Contains xs z
    from z i = ⊎_elim (λ e. absurd (not_again z e (subst (λ w. R w z) (sym same) (head_pair R y ys z q i)))) (λ j. j) (from_cons x xs z (g z (in_cons y ys z i)))

-- ---- one line

-- in a region a segment has one list
pub one_part : (In : Pt → Type 0) (segments : List Seg) (s : Seg) (p q : List Pt) → IsRouteIn In segments s p → IsRouteIn In segments s q → p ≡ q
one_part In segments s p q h k = same_list (IsEarlier s) p q
    (λ c e i j l m. not_both (piece s) c e (meets_in s c ((h.exact c).0 i).1) (meets_in s e ((h.exact e).0 j).1) (earlier_in s c e l) (earlier_in s e c m))
    h.ordered k.ordered (λ c i. (k.exact c).1 ((h.exact c).0 i)) (λ c i. (h.exact c).1 ((k.exact c).0 i))

-- a region that has no pixel of the segment
pub no_part : (In : Pt → Type 0) (segments : List Seg) (s : Seg) → ((c : Pt) → Meets s c → In c → ⊥) → IsRouteIn In segments s []
no_part In segments s h = record {
  exact = λ c. ((λ i. absurd (none_in c i)), (λ i. absurd (h c i.1 i.2)));
  ordered = λ i j d k l. absurd (omega arith);
}

-- the same pixels, of other segments or in another region
pub same_part : (In Other : Pt → Type 0) (segments others : List Seg) (s : Seg) (part : List Pt) → ((c : Pt) → Meets s c → (IsHot segments c × In c) ↔ (IsHot others c × Other c)) → IsRouteIn In segments s part → IsRouteIn Other others s part
same_part In Other segments others s part same h = record {
  exact = λ c. (
    (λ i. let k = (h.exact c).0 i in let l = (same c k.1).0 (k.0, k.2) in (l.0, k.1, l.1)),
    (λ i. let l = (same c i.1).1 (i.0, i.2) in (h.exact c).1 (l.0, i.1, l.1)),
  );
  ordered = h.ordered;
}

module _ (cuts : List ℤ) (strip : ℕ) (segments : List Seg) (s : Seg) (b : IsBefore s.a s.b) where
  -- what lies in the strip, and what lies behind it, together
  pub put_together : (front back : List Pt) → IsRouteIn (IsInStrip cuts strip) segments s front → IsRouteIn (IsFrom cuts (strip + 1)) segments s back → IsRouteIn (IsFrom cuts strip) segments s (front ++ back)
  put_together front back h k = record {
    exact = λ c. (
      (λ i. ⊎_elim
          (λ j. let l = (h.exact c).0 j in (l.0, l.1, from_equal (strip_at cuts c) l.2))
          (λ j. let l = (k.exact c).0 j in (l.0, l.1, from_later (strip_at cuts c) l.2)) (Contains-append_cases front back c i)),
      (λ i. ⊎_elim
          (λ e. Contains-append_left front back c ((h.exact c).1 (i.0, i.1, e)))
          (λ n. Contains-append_right front back c ((k.exact c).1 (i.0, i.1, later (strip_at cuts c) i.2 n))) (cases_eq (strip_at cuts c) strip)),
    );
    ordered = pairs_append (IsEarlier s) front back h.ordered k.ordered (λ c e i j. let l = (h.exact c).0 i in let m = (k.exact e).0 j in earlier_by_strip cuts s b c e l.1 m.1 (below (strip_at cuts c) (strip_at cuts e) l.2 m.2));
  }
    where
      from_equal : (n : ℕ) → n ≡ strip → strip ≤ n
      from_equal n e = omega arith

      from_later : (n : ℕ) → strip + 1 ≤ n → strip ≤ n
      from_later n e = omega arith

      later : (n : ℕ) → strip ≤ n → (n ≡ strip → ⊥) → strip + 1 ≤ n
      later n h k = omega arith

      below : (m n : ℕ) → m ≡ strip → strip + 1 ≤ n → m < n
      below m n h k = omega arith

  -- and the other way: what lies from the strip on has two parts
  pub record IsParted (part : List Pt) : Type 0 where
    pub front : List Pt
    pub back : List Pt
    pub in_strip : IsRouteIn (IsInStrip cuts strip) segments s front
    pub behind : IsRouteIn (IsFrom cuts (strip + 1)) segments s back
    pub both : part ≡ front ++ back

  pub parted : (part : List Pt) → IsRouteIn (IsFrom cuts strip) segments s part → IsParted part
  parted part h = record { front = front; back = back; in_strip = in_strip; behind = behind; both = one_part (IsFrom cuts strip) segments s part (front ++ back) h (put_together front back in_strip behind) }
    where
      in_it : Pt → Bool
      in_it c = nat_eq (strip_at cuts c) strip

      behind_it : Pt → Bool
      behind_it c = nat_lt strip (strip_at cuts c)

      front : List Pt
      front = filter in_it part

      back : List Pt
      back = filter behind_it part

      in_strip : IsRouteIn (IsInStrip cuts strip) segments s front
      in_strip = record {
        exact = λ c. (
          (λ i. let k = (in_filter in_it part c).0 i in let l = (h.exact c).0 k.0 in (l.0, l.1, eqb-true (strip_at cuts c) strip k.1)),
          (λ i. (in_filter in_it part c).1 ((h.exact c).1 (i.0, i.1, from_equal (strip_at cuts c) i.2), eq-eqb (strip_at cuts c) strip i.2)),
        );
        ordered = AllPairs-filter (IsEarlier s) in_it part h.ordered;
      }
        where
          from_equal : (n : ℕ) → n ≡ strip → strip ≤ n
          from_equal n e = omega arith

      behind : IsRouteIn (IsFrom cuts (strip + 1)) segments s back
      behind = record {
        exact = λ c. (
          (λ i. let k = (in_filter behind_it part c).0 i in let l = (h.exact c).0 k.0 in (l.0, l.1, above (strip_at cuts c) (ltb-true strip (strip_at cuts c) k.1))),
          (λ i. (in_filter behind_it part c).1 ((h.exact c).1 (i.0, i.1, from_later (strip_at cuts c) i.2), lt-ltb strip (strip_at cuts c) (below (strip_at cuts c) i.2))),
        );
        ordered = AllPairs-filter (IsEarlier s) behind_it part h.ordered;
      }
        where
          above : (n : ℕ) → strip < n → strip + 1 ≤ n
          above n e = omega arith

          below : (n : ℕ) → strip + 1 ≤ n → strip < n
          below n e = omega arith

          from_later : (n : ℕ) → strip + 1 ≤ n → strip ≤ n
          from_later n e = omega arith

-- ---- lists of lines

-- each line's part in the region, of the hot pixels of all segments
abbrev pub RoutesIn : (Pt → Type 0) → List Seg → List Line → List (List Pt) → Type 0
RoutesIn In segments lines parts = AllZip (λ (l : Line) part. IsRouteIn In segments l.segment part) lines parts

abbrev pub Oriented : List Line → Type 0
Oriented lines = All (λ (l : Line). IsBefore l.segment.a l.segment.b) lines

pub first_oriented : (l : Line) (ls : List Line) → Oriented (l ∷ ls) → IsBefore l.segment.a l.segment.b
first_oriented l ls o = All-head (λ (m : Line). IsBefore m.segment.a m.segment.b) l ls o

pub rest_oriented : (l : Line) (ls : List Line) → Oriented (l ∷ ls) → Oriented ls
rest_oriented l ls o = All-tail (λ (m : Line). IsBefore m.segment.a m.segment.b) l ls o

-- each list of the first before that of the second
abbrev pub each_with : List (List Pt) → List (List Pt) → List (List Pt)
each_with [] backs = []
each_with (front ∷ fronts) [] = []
each_with (front ∷ fronts) (back ∷ backs) = (front ++ back) ∷ each_with fronts backs

pub same_parts : (In : Pt → Type 0) (segments : List Seg) (lines : List Line) (ps qs : List (List Pt)) → RoutesIn In segments lines ps → RoutesIn In segments lines qs → ps ≡ qs
same_parts In segments [] [] [] h k = refl
same_parts In segments [] [] (q ∷ qs) h k = absurd k
same_parts In segments [] (p ∷ ps) qs h k = absurd h
same_parts In segments (l ∷ ls) [] qs h k = absurd h
same_parts In segments (l ∷ ls) (p ∷ ps) [] h k = absurd k
same_parts In segments (l ∷ ls) (p ∷ ps) (q ∷ qs) h k = ap (λ r. r ∷ ps) (one_part In segments l.segment p q h.0 k.0) ∙ ap (λ rs. q ∷ rs) (same_parts In segments ls ps qs h.1 k.1)

module _ (cuts : List ℤ) (strip : ℕ) (segments : List Seg) where
  pub all_together : (lines : List Line) (fronts backs : List (List Pt)) → Oriented lines → RoutesIn (IsInStrip cuts strip) segments lines fronts → RoutesIn (IsFrom cuts (strip + 1)) segments lines backs
      → RoutesIn (IsFrom cuts strip) segments lines (each_with fronts backs)
  all_together [] [] backs o h k = tt
  all_together [] (f ∷ fs) backs o h k = absurd h
  all_together (l ∷ ls) [] backs o h k = absurd h
  all_together (l ∷ ls) (f ∷ fs) [] o h k = absurd k
  all_together (l ∷ ls) (f ∷ fs) (b ∷ bs) o h k = (put_together cuts strip segments l.segment (first_oriented l ls o) f b h.0 k.0, all_together ls fs bs (rest_oriented l ls o) h.1 k.1)

  pub record AreParted (lines : List Line) (parts : List (List Pt)) : Type 0 where
    pub fronts : List (List Pt)
    pub backs : List (List Pt)
    pub in_strip : RoutesIn (IsInStrip cuts strip) segments lines fronts
    pub behind : RoutesIn (IsFrom cuts (strip + 1)) segments lines backs
    pub both : parts ≡ each_with fronts backs

  pub all_parted : (lines : List Line) (parts : List (List Pt)) → Oriented lines → RoutesIn (IsFrom cuts strip) segments lines parts → AreParted lines parts
  all_parted [] [] o h = record { fronts = []; backs = []; in_strip = tt; behind = tt; both = refl }
  all_parted [] (p ∷ ps) o h = absurd h
  all_parted (l ∷ ls) [] o h = absurd h
  all_parted (l ∷ ls) (p ∷ ps) o h =
      let one = parted cuts strip segments l.segment (first_oriented l ls o) p h.0 in
      let rest = all_parted ls ps (rest_oriented l ls o) h.1 in record {
        fronts = one.front ∷ rest.fronts;
        backs = one.back ∷ rest.backs;
        in_strip = (one.in_strip, rest.in_strip);
        behind = (one.behind, rest.behind);
        both = ap (λ q. q ∷ ps) one.both ∙ ap (λ qs. (one.front ++ one.back) ∷ qs) rest.both;
      }
