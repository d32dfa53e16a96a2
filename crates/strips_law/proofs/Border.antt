-- The lines that cross a border, each with what is made of its part.
use Rattle.std.proofs.Common.{◌≡◌, ◌∙◌, ◌⊎◌, inl, inr, ℕ, List, [], ◌∷◌, ◌++◌, true, false, Bool, refl, sym, ap, subst, arith, ⊎_elim, map}
use Rattle.std.proofs.lemmas.Bool.{false≢true}
use Rattle.std.specs.Prelude.{◌<◌, ℤ, AllPairs, Contains, if◌then◌else◌}
use Rattle.geom.specs.declared.point.Pt.{Pt}
use Rattle.geom.specs.declared.segment.Seg.{Seg}
use Rattle.geom.proofs.Lists.{In, contains_in, in_append, in_back, in_contains, in_front}
use Rattle.hot_region.proofs.ListLaws.{head_pair, pairs_cons, tail_pairs}
use Rattle.strips_law.specs.declared.line.Line.{Line}
use Rattle.strips_law.specs.Strips.{at_border, crosses}
use Rattle.strips_law.proofs.Parts.{RoutesIn}

-- the line and the part stand beside each other
abbrev pub Stands : List Line → List (List Pt) → Line → List Pt → Type 0
Stands [] parts l part = ⊥
Stands (m ∷ ms) [] l part = ⊥
Stands (m ∷ ms) (p ∷ ps) l part = ((m ≡ l) × (p ≡ part)) ⊎ Stands ms ps l part

pub line_listed : (ls : List Line) (ps : List (List Pt)) (l : Line) (part : List Pt) → Stands ls ps l part → In l ls
line_listed [] ps l part h = absurd h
line_listed (m ∷ ms) [] l part h = absurd h
line_listed (m ∷ ms) (p ∷ ps) l part (inl e) = inl e.0
line_listed (m ∷ ms) (p ∷ ps) l part (inr h) = inr (line_listed ms ps l part h)

-- a line has a part
pub part_of : (In' : Pt → Type 0) (segments : List Seg) (ls : List Line) (ps : List (List Pt)) → RoutesIn In' segments ls ps → (l : Line) → In l ls → (part : List Pt) × Stands ls ps l part
part_of In' segments [] ps h l i = absurd i
part_of In' segments (m ∷ ms) [] h l i = absurd h
part_of In' segments (m ∷ ms) (p ∷ ps) h l (inl e) = (p, inl (e, refl))
part_of In' segments (m ∷ ms) (p ∷ ps) h l (inr i) = let r = part_of In' segments ms ps h.1 l i in (r.0, inr r.1)

-- and by its number one only
pub one_stands : (ls : List Line) (ps : List (List Pt)) → AllPairs (λ (l m : Line). l.number < m.number) ls → (l m : Line) (p q : List Pt) → Stands ls ps l p → Stands ls ps m q → l.number ≡ m.number → p ≡ q
one_stands [] ps up l m p q h k e = absurd h
one_stands (x ∷ xs) [] up l m p q h k e = absurd h
one_stands (x ∷ xs) (r ∷ rs) up l m p q (inl a) (inl b) e = sym a.1 ∙ b.1
one_stands (x ∷ xs) (r ∷ rs) up l m p q (inl a) (inr k) e = absurd (never x.number m.number (head_pair (λ (l m : Line). l.number < m.number) x xs m up (in_contains xs m (line_listed xs rs m q k))) (ap (λ (y : Line). y.number) a.0 ∙ e))
  where
    never : (i j : ℕ) → i < j → i ≡ j → ⊥
    never i j h k = omega arith
one_stands (x ∷ xs) (r ∷ rs) up l m p q (inr h) (inl b) e = absurd (never x.number l.number (head_pair (λ (l m : Line). l.number < m.number) x xs l up (in_contains xs l (line_listed xs rs l p h))) (ap (λ (y : Line). y.number) b.0 ∙ sym e))
  where
    never : (i j : ℕ) → i < j → i ≡ j → ⊥
    never i j h k = omega arith
one_stands (x ∷ xs) (r ∷ rs) up l m p q (inr h) (inr k) e = one_stands xs rs (tail_pairs (λ (l m : Line). l.number < m.number) x xs up) l m p q h k e

module _ {X : Type 0} (cuts : List ℤ) (strip : ℕ) (f : Line → List Pt → X) where
  -- what is there comes of a line that crosses
  pub record Comes (lines : List Line) (parts : List (List Pt)) (x : X) : Type 0 where
    pub line : Line
    pub part : List Pt
    pub stands : Stands lines parts line part
    pub crosses : crosses cuts strip line.segment ≡ true
    pub made : f line part ≡ x

  pub comes : (lines : List Line) (parts : List (List Pt)) (x : X) → In x (at_border cuts strip f lines parts) → Comes lines parts x
  comes [] parts x i = absurd i
  comes (l ∷ ls) [] x i = absurd i
  comes (l ∷ ls) (p ∷ ps) x i = ⊎_elim (λ j. first (crosses cuts strip l.segment) refl j) (λ j. later (comes ls ps x j)) (in_append (if crosses cuts strip l.segment then f l p ∷ [] else []) (at_border cuts strip f ls ps) x i)
    where
      first : (t : Bool) → crosses cuts strip l.segment ≡ t → In x (if t then f l p ∷ [] else []) → Comes (l ∷ ls) (p ∷ ps) x
      first true e (inl k) = record { line = l; part = p; stands = inl (refl, refl); crosses = e; made = k }
      first true e (inr k) = absurd k
      first false e k = absurd k

      later : Comes ls ps x → Comes (l ∷ ls) (p ∷ ps) x
      later h = record { line = h.line; part = h.part; stands = inr h.stands; crosses = h.crosses; made = h.made }

  -- and each line that crosses is there
  pub goes : (lines : List Line) (parts : List (List Pt)) (l : Line) (part : List Pt) → Stands lines parts l part → crosses cuts strip l.segment ≡ true → In (f l part) (at_border cuts strip f lines parts)
  goes [] parts l part h e = absurd h
  goes (m ∷ ms) [] l part h e = absurd h
  goes (m ∷ ms) (p ∷ ps) l part (inl h) e = in_front (if crosses cuts strip m.segment then f m p ∷ [] else []) (at_border cuts strip f ms ps) (f l part) (at (crosses cuts strip m.segment) (subst (λ (x : Line). crosses cuts strip x.segment ≡ true) (sym h.0) e))
    where
      at : (t : Bool) → t ≡ true → In (f l part) (if t then f m p ∷ [] else [])
      at true k = inl (ap (λ (x : Line). f x p) h.0 ∙ ap (λ q. f l q) h.1)
      at false k = absurd (false≢true k)
  goes (m ∷ ms) (p ∷ ps) l part (inr h) e = in_back (if crosses cuts strip m.segment then f m p ∷ [] else []) (at_border cuts strip f ms ps) (f l part) (goes ms ps l part h e)

  -- it ascends by the numbers of the lines
  pub border_ascends : (key : X → ℕ) → ((l : Line) (part : List Pt) → key (f l part) ≡ l.number) → (lines : List Line) (parts : List (List Pt)) → AllPairs (λ (l m : Line). l.number < m.number) lines → AllPairs (λ x y. key x < key y) (at_border cuts strip f lines parts)
  border_ascends key by [] parts up = λ i j d a b. absurd (omega arith)
  border_ascends key by (l ∷ ls) [] up = λ i j d a b. absurd (omega arith)
  border_ascends key by (l ∷ ls) (p ∷ ps) up = at (border_ascends key by ls ps (tail_pairs (λ (l m : Line). l.number < m.number) l ls up)) (crosses cuts strip l.segment)
    where
      rest : List X
      rest = at_border cuts strip f ls ps

      below : (x : X) → Contains rest x → key (f l p) < key x
      below x i =
          let c = comes ls ps x (contains_in rest x i) in
          let k : l.number < c.line.number = head_pair (λ (l m : Line). l.number < m.number) l ls c.line up (in_contains ls c.line (line_listed ls ps c.line c.part c.stands)) in
          smaller (key (f l p)) l.number c.line.number (key x) (by l p) k (sym (by c.line c.part) ∙ ap key c.made)
        where
          smaller : (a b c d : ℕ) → a ≡ b → b < c → c ≡ d → a < d
          smaller a b c d h k l = omega arith

      at : AllPairs (λ x y. key x < key y) rest → (t : Bool) → AllPairs (λ x y. key x < key y) ((if t then f l p ∷ [] else []) ++ rest)
      at h true = pairs_cons (λ x y. key x < key y) (f l p) rest below h
      at h false = h

-- the numbers of the lines that cross
abbrev pub numbers_at : List ℤ → ℕ → List Line → List ℕ
numbers_at cuts strip [] = []
numbers_at cuts strip (l ∷ ls) = (if crosses cuts strip l.segment then l.number ∷ [] else []) ++ numbers_at cuts strip ls

pub numbers_are : {X : Type 0} (cuts : List ℤ) (strip : ℕ) (f : Line → List Pt → X) (key : X → ℕ) → ((l : Line) (part : List Pt) → key (f l part) ≡ l.number) → (In' : Pt → Type 0) (segments : List Seg) (lines : List Line) (parts : List (List Pt))
    → RoutesIn In' segments lines parts → map key (at_border cuts strip f lines parts) ≡ numbers_at cuts strip lines
numbers_are cuts strip f key by In' segments [] parts h = refl
numbers_are cuts strip f key by In' segments (l ∷ ls) [] h = absurd h
numbers_are {X} cuts strip f key by In' segments (l ∷ ls) (p ∷ ps) h = at (crosses cuts strip l.segment) (numbers_are cuts strip f key by In' segments ls ps h.1)
  where
    at : (t : Bool) → map key (at_border cuts strip f ls ps) ≡ numbers_at cuts strip ls → map key ((if t then f l p ∷ [] else []) ++ at_border cuts strip f ls ps) ≡ (if t then l.number ∷ [] else []) ++ numbers_at cuts strip ls
    at true k = ap (λ n. n ∷ map key (at_border cuts strip f ls ps)) (by l p) ∙ ap (λ ns. l.number ∷ ns) k
    at false k = k
