-- Links between the places of directed edges, as their ties are (own).
use Rattle.std.specs.Prelude.{◌≡◌, ◌↔◌, ◌⊎◌, ◌<◌, ◌≤◌, ◌+◌, ◌++◌, ◌∷◌, ℕ, ℤ, true, false, Bool, List, [], All, AllPairs, Contains, length, slice_index, slice_index_or}
use Rattle.geom.specs.declared.directed.DirectedEdge.{DirectedEdge}
use Rattle.geom.specs.declared.edge.Edge.{Edge}
use Rattle.geom.specs.Holes.{IsNearestBelow, LiesBelow, left_of}
use Rattle.polygonize.specs.Next.{edge_at}
use Rattle.parts_law.specs.Bounds.{GoesRight}
use Rattle.parts_law.specs.Ties.{AreTied, GoesOver, IsOpen}
use Rattle.strip_polygons.specs.declared.classes.Link.{Link}
use Rattle.strip_polygons.specs.Classes.{AreChained, AreLinksBelow}

-- the edges at the ends of a link are tied, and from one of two tied edges links lead to the other
pub record AreTies (directed : List DirectedEdge) (links : List Link) : Type 0 where
  pub inside : AreLinksBelow (length directed) links
  pub sound : All (λ l. AreTied directed (edge_at directed l.first) (edge_at directed l.second)) links
  pub complete : (i j : ℕ) → i < length directed → j < length directed → AreTied directed (edge_at directed i) (edge_at directed j)
      → AreChained links i j

-- for each of the edges, whether it is open
pub record TellOpen (cuts : List ℤ) (from past : ℕ) (known : List DirectedEdge) (flags : List Bool) : Type 0 where
  pub same_length : length flags ≡ length known
  pub exact : (i : ℕ) (b : Bool) → i < length known → (slice_index_or flags i b ≡ true) ↔ IsOpen cuts from past known (edge_at known i)

-- ---- how ties are found

abbrev pub link : ℕ → ℕ → Link
link i j = record { first = i; second = j }

-- the edges at the ends of the link are tied
pub record IsTie (directed : List DirectedEdge) (l : Link) : Type 0 where
  pub first_inside : l.first < length directed
  pub second_inside : l.second < length directed
  pub tied : AreTied directed (edge_at directed l.first) (edge_at directed l.second)

-- no link is lost, and those that are new are ties
pub record AddsTies (directed : List DirectedEdge) (old new : List Link) : Type 0 where
  pub kept : (l : Link) → Contains old l → Contains new l
  pub sound : (l : Link) → Contains new l → Contains old l ⊎ IsTie directed l

-- of the first n edges two neighbours that leave one vertex are linked
abbrev pub LinkLeaving : List DirectedEdge → ℕ → List Link → Type 0
LinkLeaving directed n links = (i : ℕ) → i + 1 < n → (edge_at directed i).from ≡ (edge_at directed (i + 1)).from → Contains links (link i (i + 1))

-- the edge at i is linked to one that leaves the same vertex as that at j, and stands no later
pub record IsLinkedUpTo (directed : List DirectedEdge) (links : List Link) (i j : ℕ) : Type 0 where
  pub place : ℕ
  pub up_to : place ≤ j
  pub one_start : (edge_at directed place).from ≡ (edge_at directed j).from
  pub linked : Contains links (link i place)

-- each of the first n edges is linked to the first one that leaves its end
abbrev pub LinkFollowing : List DirectedEdge → ℕ → List Link → Type 0
LinkFollowing directed n links = (i j : ℕ) → i < n → j < length directed → (edge_at directed i).to ≡ (edge_at directed j).from
    → IsLinkedUpTo directed links i j

-- the places of those of the first n edges that go to the right, ascending
pub record AreRightward (directed : List DirectedEdge) (n : ℕ) (places : List ℕ) : Type 0 where
  pub sound : All (λ k. (k < n) × GoesRight (edge_at directed k)) places
  pub each : (k : ℕ) → k < n → GoesRight (edge_at directed k) → Contains places k
  pub ascending : AllPairs (λ j k. j < k) places

-- the edge at the place is a nearest one below the start of that at j, and linked to it if it goes to the right
pub record IsLowerLinked (directed : List DirectedEdge) (links : List Link) (j : ℕ) : Type 0 where
  pub place : ℕ
  pub inside : place < length directed
  pub nearest : IsNearestBelow directed (left_of (edge_at directed j).from) (edge_at directed place)
  pub linked : GoesRight (edge_at directed place) → Contains links (link place j)

-- such an edge there is, or none lies below the start
abbrev pub LinksLower : List DirectedEdge → List Link → ℕ → Type 0
LinksLower directed links j = ((e : Edge) → ¬ (LiesBelow directed (left_of (edge_at directed j).from) e)) ⊎ IsLowerLinked directed links j

-- for each edge that goes to the right
abbrev pub LinkUnder : List DirectedEdge → List Link → Type 0
LinkUnder directed links = (j : ℕ) → j < length directed → GoesRight (edge_at directed j) → LinksLower directed links j

-- ---- how open edges are found

-- of the first n edges one that has the root r goes over a border
pub record HasOver (cuts : List ℤ) (from past : ℕ) (known : List DirectedEdge) (roots : List ℕ) (n r : ℕ) : Type 0 where
  pub place : ℕ
  pub inside : place < n
  pub root : slice_index roots place ≡ r
  pub over : GoesOver cuts from past (edge_at known place)

-- for each place whether it is the root of such an edge
pub record AreOpenRoots (cuts : List ℤ) (from past : ℕ) (known : List DirectedEdge) (roots : List ℕ) (n : ℕ) (flags : List Bool) : Type 0 where
  pub same_length : length flags ≡ length known
  pub exact : (r : ℕ) → r < length known → (slice_index_or flags r false ≡ true) ↔ HasOver cuts from past known roots n r

-- x is added if P holds
abbrev pub IsAddedIf : {X : Type 0} → Type 0 → X → List X → List X → Type 0
IsAddedIf P x old new = (P × (new ≡ old ++ x ∷ [])) ⊎ (¬ P × (new ≡ old))
