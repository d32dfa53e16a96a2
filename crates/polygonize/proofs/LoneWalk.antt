-- The walks along rings, where no vertex is left by two edges.
use Rattle.std.proofs.Common.{◌≡◌, ◌≢◌, ℕ, zero, suc, ◌+◌, ◌-◌, ◌<◌, ◌≤◌, Bool, true, false, not, List, [], ◌∷◌, ◌++◌, length, get_or, replicate, set, refl, sym, ◌∙◌, ap, subst, inl, inr, arith}
use Rattle.std.specs.Prelude.{All, Contains, count_by, map}
use Rattle.std.proofs.lemmas.Bool.{cases_eq, cases_lt}
use Rattle.std.proofs.lemmas.List.{get_or_default, map-append}
use Rattle.std.proofs.lemmas.List.Elements.{All-get_or, All-nil, All-push, All-weaker, Contains-get_or}
use Rattle.std.proofs.lemmas.List.Kept.{AllPairs-cons}
use Rattle.geom.specs.declared.point.Pt.{Pt}
use Rattle.geom.specs.declared.directed.DirectedEdge.{DirectedEdge}
use Rattle.geom.specs.Canonical.{Shape}
use Rattle.geom.specs.Directed.{from_to, AreDirected}
use Rattle.geom.specs.Holes.{IsShell}
use Rattle.geom.specs.Rings.{Closes, IsNext, IsSimple}
use Rattle.geom.proofs.Lists.{In}
use Rattle.geom.proofs.Owners.{all_in}
use Rattle.polygonize.specs.Cycle.{IsClosed, IsOneToOne, IsSeen, IsUnseen, Member, NoTwice, Walked}
use Rattle.polygonize.specs.Leaving.{AreNextPlaces, IsNextPlace}
use Rattle.polygonize.specs.LoneShells.{AreLoneShells, without_holes}
use Rattle.polygonize.specs.Next.{nothing, edge_at, AreNext, ring_of, rings_of}
use Rattle.polygonize.specs.Number.{IsVertex, LeaveApart}
use Rattle.polygonize.specs.Written.{IsCanonical}
use Rattle.polygonize.proofs.CycleRings.{are_rings}
use Rattle.polygonize.proofs.Cycles.{Found, all_found, in_member, none_found, one_more_found, seen_found}
use Rattle.polygonize.proofs.NextEdge.Linking.{are_next, more_linked, none_linked, one_to_one}
use Rattle.polygonize.proofs.Numbers.{amid, same_vertex}
use Rattle.polygonize.proofs.Walking.{Walking, begun, both, fewer, onward}

-- ---- each edge leaves a vertex of its own
-- so it is of the edges before a place
abbrev pub LeaveApartBefore : List DirectedEdge → ℕ → Type 0
LeaveApartBefore ds n = (k : ℕ) → k < n → k < length ds → IsVertex ds k

pub more_apart : (ds : List DirectedEdge) → AreDirected ds → (n : ℕ) → 1 ≤ n → (edge_at ds (n - 1)).from ≢ (edge_at ds n).from → LeaveApartBefore ds n → LeaveApartBefore ds (n + 1)
more_apart ds a n some apart b k h l = elim (cases_lt k n) [
  | inl before ↦ b k before l
  | inr behind ↦ record { inside = l; first = λ m j e. new m j e (omega (arith, h, behind)) }
]
  where
    new : (m : ℕ) → m < k → (edge_at ds m).from ≡ (edge_at ds k).from → k ≡ n → ⊥
    new m j e at = elim (cases_eq m (n - 1)) [
      | inl q ↦ apart (ap (λ i. (edge_at ds i).from) (sym q) ∙ e ∙ ap (λ i. (edge_at ds i).from) at)
      | inr o ↦ apart (amid ds a m (n - 1) k (omega (arith, some, j, at, o)) (omega (arith, some, at)) l e ∙ ap (λ i. (edge_at ds i).from) at)
    ]

-- ---- the next edges
next_here : (ds : List DirectedEdge) (k : ℕ) → (w : Pt) × Contains ds (from_to (edge_at ds k).to w) × IsNext ds (edge_at ds k).from (edge_at ds k).to w → (n : ℕ) × IsNextPlace ds k n
next_here ds k (w, leaves, follows) = (
  leaves.0,
  record {
    inside = leaves.1;
    joins = ap (λ d. d.from) is;
    follows = let P : Pt → Type 0 = IsNext ds (edge_at ds k).from (edge_at ds k).to in subst P (sym (ap (λ d. d.to) is)) follows;
  },
)
  where
    is : edge_at ds leaves.0 ≡ from_to (edge_at ds k).to w
    is = get_or_default ds leaves.0 nothing (from_to (edge_at ds k).to w) leaves.1 ∙ leaves.2

one_further : (ds : List DirectedEdge) (n : ℕ) → (next : List ℕ) × AreNextPlaces ds 0 n next → (m : ℕ) × IsNextPlace ds n m → (next : List ℕ) × AreNextPlaces ds 0 (suc n) next
one_further ds n rest here = (rest.0 ++ here.0 ∷ [], let P : ℕ → Type 0 = λ m. AreNextPlaces ds 0 m (rest.0 ++ here.0 ∷ []) in subst P (up n) (more_linked ds 0 n rest.0 here.0 here.1 rest.1))
  where
    up : (n : ℕ) → n + 1 ≡ suc n
    up n = omega arith

next_before : (ds : List DirectedEdge) → Closes ds → (n : ℕ) → n ≤ length ds → (next : List ℕ) × AreNextPlaces ds 0 n next
next_before ds c zero h = ([], none_linked ds 0)
next_before ds c (suc n) h = one_further ds n (next_before ds c n (omega (arith, h)))
    (next_here ds n (c.turns (edge_at ds n).from (edge_at ds n).to (Contains-get_or ds n nothing (omega (arith, h)))))

all_next : (ds : List DirectedEdge) → Closes ds → (next : List ℕ) × AreNextPlaces ds 0 (length ds) next
all_next ds c = next_before ds c (length ds) (same (length ds))
  where
    same : (n : ℕ) → n ≤ n
    same n = omega arith

-- the place that was found is the next one
found_next : (ds : List DirectedEdge) (next : List ℕ) → AreNext ds next → LeaveApart ds → (k n : ℕ) → k < length ds → n < length ds → (edge_at ds n).from ≡ (edge_at ds k).to → get_or next k 0 ≡ n
found_next ds next a v k n h i e = same_vertex ds (get_or next k 0) n (v (get_or next k 0) inside) (v n i) (a.joins k h ∙ sym e)
  where
    len : length next ≡ length ds
    len = a.same_length

    in_next : get_or next k 0 < length next
    in_next = All-get_or (λ m. m < length next) next k 0 (omega (arith, h, len)) a.inside

    inside : get_or next k 0 < length ds
    inside = omega (arith, in_next, len)

-- there are next places
pub some_next : (ds : List DirectedEdge) → Closes ds → (next : List ℕ) × AreNext ds next × IsOneToOne next
some_next ds c = let all = all_next ds c in (all.0, are_next ds all.0 all.1, one_to_one ds all.0 all.1 c.are_directed)

-- ---- one walk
-- along next places the cycle has been walked so far, and `at` is the place that comes next
pub record WalksOn (ds : List DirectedEdge) (old seen : List Bool) (start at : ℕ) (cycle : List ℕ) : Type 0 where
  pub at_inside : at < length ds
  pub along : (next : List ℕ) → AreNext ds next → IsOneToOne next → Walking next old seen start at cycle

pub walk_begun : (ds : List DirectedEdge) → LeaveApart ds → (old : List Bool) (start : ℕ) → length old ≡ length ds → ((next : List ℕ) → AreNext ds next → IsOneToOne next → IsClosed next old) → start < length ds → IsUnseen old start
    → (at : ℕ) → at < length ds → (edge_at ds at).from ≡ (edge_at ds start).to → WalksOn ds old (set old start true) start at (start ∷ [])
walk_begun ds v old start len closed inside free at at_in joins = record {
  at_inside = at_in;
  along = λ next a o. (let P : ℕ → Type 0 = λ k. Walking next old (set old start true) start k (start ∷ []) in subst P (found_next ds next a v start at inside at_in joins)
      (begun next old start (len ∙ sym a.same_length) a.inside o (closed next a o) (let e = a.same_length in omega (arith, inside, e)) free));
}

pub walk_on : (ds : List DirectedEdge) → LeaveApart ds → (old seen : List Bool) (start at : ℕ) (cycle : List ℕ) → at ≢ start → WalksOn ds old seen start at cycle → (n : ℕ) → n < length ds → (edge_at ds n).from ≡ (edge_at ds at).to
    → WalksOn ds old (set seen at true) start n (cycle ++ at ∷ [])
walk_on ds v old seen start at cycle away w n inside joins = record {
  at_inside = inside;
  along = λ next a o. (let P : ℕ → Type 0 = λ k. Walking next old (set seen at true) start k (cycle ++ at ∷ []) in subst P (found_next ds next a v at n w.at_inside inside joins)
      (onward next old seen start at cycle a.inside o away (w.along next a o)));
}

pub walk_fewer : (ds : List DirectedEdge) → Closes ds → (old seen : List Bool) (start at : ℕ) (cycle : List ℕ) → at ≢ start → WalksOn ds old seen start at cycle → count_by not (set seen at true) < count_by not seen
walk_fewer ds c old seen start at cycle away w = fewer seen at in_seen (here.free away)
  where
    here : Walking (some_next ds c).0 old seen start at cycle
    here = w.along (some_next ds c).0 (some_next ds c).1 (some_next ds c).2

    in_seen : at < length seen
    in_seen = let i = here.at_in in let e = here.same_length in omega (arith, i, e)

-- ---- a walk's ring
no_twice_simple : (is : List ℕ) → NoTwice is → IsSimple is
no_twice_simple [] d = λ i j e h k. absurd (omega arith)
no_twice_simple (x ∷ xs) d = AllPairs-cons (λ p q. p ≢ q) x xs (all_in (λ q. x ≢ q) xs (λ q i e. d.0 (in_member xs x (let P : ℕ → Type 0 = λ t. In t xs in subst P (sym e) i)))) (no_twice_simple xs d.1)

pub walked_canonical : (ds : List DirectedEdge) → LeaveApart ds → (next : List ℕ) → AreNext ds next → (old new : List Bool) (start : ℕ) (cycle : List ℕ) → ((i : ℕ) → i < start → IsSeen old i) → Walked next old new start cycle → 3 ≤ length cycle → IsCanonical ds cycle
walked_canonical ds v next a old new start cycle passed w long = record {
  sound = record {
    long = long;
    simple = no_twice_simple cycle w.no_twice;
    vertices = All-weaker (λ i. i < length next) (IsVertex ds) (λ i h. v i (let e = a.same_length in omega (arith, h, e))) cycle w.is_cycle.inside;
  };
  least = all_in (λ k. get_or cycle 0 0 ≤ k) cycle (λ k i. at_least k (in_member cycle k i));
}
  where
    first : get_or cycle 0 0 ≡ start
    first = ap (λ t. get_or t 0 0) w.begins

    not_before : (j : ℕ) → Member cycle j → start ≤ j
    not_before j m = elim (cases_lt j start) [ inl h ↦ absurd (both (get_or old j false) (passed j h) (w.fresh j m)) | inr h ↦ h ]

    at_least : (k : ℕ) → Member cycle k → get_or cycle 0 0 ≤ k
    at_least k m = let n = not_before k m in let f = first in omega (arith, n, f)

-- ---- what the loop over all edges keeps: the rings so far are shells, and each of them is a polygon
pub record LoneSoFar (ds : List DirectedEdge) (seen : List Bool) (start : ℕ) (polygons : List Shape) : Type 0 where
  pub numbers : List (List ℕ)
  pub are_polygons : polygons ≡ map without_holes (rings_of ds numbers)
  pub canonical : All (IsCanonical ds) numbers
  pub shells : All (λ r. IsShell (ring_of ds r)) numbers
  pub found : (next : List ℕ) → AreNext ds next → IsOneToOne next → Found next seen start numbers

pub none_lone : (ds : List DirectedEdge) → LoneSoFar ds (replicate (length ds) false) 0 []
none_lone ds = record {
  numbers = [];
  are_polygons = refl;
  canonical = All-nil (IsCanonical ds);
  shells = All-nil (λ r. IsShell (ring_of ds r));
  found = λ next a o. (let P : ℕ → Type 0 = λ n. Found next (replicate n false) 0 [] in subst P a.same_length (none_found next));
}

module _ (ds : List DirectedEdge) (c : Closes ds) (v : LeaveApart ds) (old : List Bool) (start : ℕ) (polygons : List Shape) (l : LoneSoFar ds old start polygons) where
  here : Found (some_next ds c).0 old start l.numbers
  here = l.found (some_next ds c).0 (some_next ds c).1 (some_next ds c).2

  pub lone_length : length old ≡ length ds
  lone_length = let n = some_next ds c in here.same_length ∙ n.1.same_length

  pub lone_closed : (next : List ℕ) → AreNext ds next → IsOneToOne next → IsClosed next old
  lone_closed next a o = (l.found next a o).closed

  pub lone_canonical : (new : List Bool) (cycle : List ℕ) → ((next : List ℕ) → AreNext ds next → IsOneToOne next → Walked next old new start cycle) → 3 ≤ length cycle → IsCanonical ds cycle
  lone_canonical new cycle w long = let n = some_next ds c in walked_canonical ds v n.0 n.1 old new start cycle here.passed (w n.0 n.1 n.2) long

  pub one_more_lone : (new : List Bool) (cycle : List ℕ) → length new ≡ length old → ((next : List ℕ) → AreNext ds next → IsOneToOne next → Walked next old new start cycle) → IsCanonical ds cycle → IsShell (ring_of ds cycle)
      → LoneSoFar ds new (start + 1) (polygons ++ without_holes (ring_of ds cycle) ∷ [])
  one_more_lone new cycle len w k s = record {
    numbers = l.numbers ++ cycle ∷ [];
    are_polygons = ap (λ t. t ++ without_holes (ring_of ds cycle) ∷ []) l.are_polygons ∙ sym (ap (map without_holes) (map-append (ring_of ds) l.numbers (cycle ∷ [])) ∙ map-append without_holes (rings_of ds l.numbers) (ring_of ds cycle ∷ []));
    canonical = All-push (IsCanonical ds) l.numbers cycle l.canonical k;
    shells = All-push (λ r. IsShell (ring_of ds r)) l.numbers cycle l.shells s;
    found = λ next a o. one_more_found next old new start l.numbers cycle len (l.found next a o) (w next a o);
  }

  pub seen_lone : (b : Bool) → start < length ds → b ≡ get_or old start b → b ≡ true → LoneSoFar ds old (start + 1) polygons
  seen_lone b h e t = record {
    numbers = l.numbers;
    are_polygons = l.are_polygons;
    canonical = l.canonical;
    shells = l.shells;
    found = λ next a o. seen_found next old start l.numbers b (let q = a.same_length in omega (arith, h, q)) e t (l.found next a o);
  }

  pub all_lone : length ds ≤ start → AreLoneShells ds polygons
  all_lone h = let n = some_next ds c in record {
    numbers = l.numbers;
    are_polygons = l.are_polygons;
    canonical = l.canonical;
    shells = l.shells;
    are_rings = are_rings ds n.0 c.are_directed n.1 l.numbers (all_found n.0 old start l.numbers (let q = n.1.same_length in omega (arith, h, q)) here);
  }
