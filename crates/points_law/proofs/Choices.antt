-- Parities as sums modulo 2 over a list of edges and a choice among them: the form in which the theorem is proved.
use lib.IntN.{ℤ, pos, negsuc, ◌+ℤ◌, ◌-ℤ◌, ◌*ℤ◌}
use lib.Signed.{lt_z, le_z, ◌<ℤ◌, ◌≤ℤ◌}
use mathlib.Core.Bool.{Bool, true, false, not}
use mathlib.Core.List.{List, [], ◌∷◌}
use mathlib.Core.Logic.{◌⊎◌}
use mathlib.Core.Path.{◌≡◌}
use Rattle.geom.specs.declared.point.Pt.{Pt}
use Rattle.geom.specs.declared.edge.Edge.{Edge}
use Rattle.geom.specs.Pixel.{Point}
use Rattle.geom.specs.ResultEdges.{left_side, right_side}
use Rattle.geom.proofs.Lists.{In}

-- ---- sums modulo 2
infixl 6 ◌⊕◌
abbrev pub ◌⊕◌ : Bool → Bool → Bool
true ⊕ b = not b
false ⊕ b = b

infixl 7 ◌∧∧◌
abbrev pub ◌∧∧◌ : Bool → Bool → Bool
true ∧∧ b = b
false ∧∧ b = false

-- whether the number of elements that pass is odd
abbrev pub par : {X : Type 0} → (X → Bool) → List X → Bool
par p [] = false
par p (x ∷ xs) = p x ⊕ par p xs

-- ---- edges
abbrev pub run : Edge → ℤ
run e = e.q.x -ℤ e.p.x

abbrev pub rise : Edge → ℤ
rise e = e.q.y -ℤ e.p.y

-- p < q, by x and then by y
abbrev pub Ordered : Edge → Type 0
Ordered e = (e.p.x <ℤ e.q.x) ⊎ ((e.p.x ≡ e.q.x) × (e.p.y <ℤ e.q.y))

-- run and rise are at most 2^29 in absolute value
pub record Small (e : Edge) : Type 0 where
  pub run_low : negsuc 536870911 ≤ℤ run e
  pub run_high : run e ≤ℤ pos 536870912
  pub rise_low : negsuc 536870911 ≤ℤ rise e
  pub rise_high : rise e ≤ℤ pos 536870912

-- ---- parity
abbrev pub covers : Edge → Point → Bool
covers e z = le_z (z.n *ℤ e.p.x) z.x ∧∧ lt_z z.x (z.n *ℤ e.q.x)

-- of an edge that covers z: it lies strictly above z
abbrev pub above : Edge → Point → Bool
above e z = lt_z (run e *ℤ (z.y -ℤ z.n *ℤ e.p.y)) (rise e *ℤ (z.x -ℤ z.n *ℤ e.p.x))

abbrev pub counted : Edge → Point → Bool
counted e z = covers e z ∧∧ above e z

-- the parity of z over the edges of es that a chooses
abbrev pub parity : (Edge → Bool) → List Edge → Point → Bool
parity a es z = par (λ e. a e ∧∧ counted e z) es

-- ---- noded
-- z = p + (m / n) (q - p)
pub record On (e : Edge) (z : Point) : Type 0 where
  pub m : ℤ
  pub n : ℤ
  pub m_low : pos 0 ≤ℤ m
  pub m_high : m ≤ℤ n
  pub n_positive : pos 0 <ℤ n
  pub at_x : n *ℤ z.x ≡ z.n *ℤ (n *ℤ e.p.x +ℤ m *ℤ run e)
  pub at_y : n *ℤ z.y ≡ z.n *ℤ (n *ℤ e.p.y +ℤ m *ℤ rise e)

abbrev pub IsAt : Pt → Point → Type 0
IsAt v z = (z.x ≡ z.n *ℤ v.x) × (z.y ≡ z.n *ℤ v.y)

abbrev pub IsEnd : Edge → Point → Type 0
IsEnd e z = IsAt e.p z ⊎ IsAt e.q z

abbrev pub MeetAtEnds : Edge → Edge → Type 0
MeetAtEnds e f = (z : Point) → On e z → On f z → IsEnd e z × IsEnd f z

abbrev pub Noded : List Edge → Type 0
Noded es = (e f : Edge) → In e es → In f es → ¬ (e ≡ f) → MeetAtEnds e f

-- ---- even degrees
abbrev pub eq_z : ℤ → ℤ → Bool
eq_z a b = le_z a b ∧∧ le_z b a

abbrev pub is : Pt → Pt → Bool
is u v = eq_z u.x v.x ∧∧ eq_z u.y v.y

-- of the edges that a chooses an even number ends at each point
abbrev pub Even : (Edge → Bool) → List Edge → Type 0
Even a es = (v : Pt) → par (λ e. a e ∧∧ (is v e.p ⊕ is v e.q)) es ≡ false

-- ---- side points and result
abbrev pub K : ℤ
K = pos 18446744073709551616

abbrev pub left : Edge → Point
left e = left_side e.p e.q

abbrev pub right : Edge → Point
right e = right_side e.p e.q

-- the operation differs between the two side points: the edge is in the result, in one direction or the other
abbrev pub in_result : (Bool → Bool → Bool) → (Edge → Bool) → (Edge → Bool) → List Edge → Edge → Bool
in_result op a b es e =
    op (parity a es (left e)) (parity b es (left e)) ⊕ op (parity a es (right e)) (parity b es (right e))

-- the same by directed edges: from u to v, with the result on the left
abbrev pub holds_at : (Bool → Bool → Bool) → (Edge → Bool) → (Edge → Bool) → List Edge → Point → Bool
holds_at op a b es z = op (parity a es z) (parity b es z)
