-- Lines read one after another.
use Rattle.std.proofs.Common.{◌≡◌, ◌∙◌, ◌<◌, ◌+◌, inl, inr, ℕ, suc, List, [], ◌∷◌, ◌++◌, Ok, Err, ap, arith, drop, length, map, refl, slice_index_or, subst, sym, take, None, Some}
use Rattle.std.specs.Borrow.{Bor}
use Rattle.std.specs.Prelude.{All, IfOk, MatchResult, Result}
use Rattle.std.proofs.Math.Seq.{split_at}
use Rattle.std.proofs.lemmas.List.{get_or-map, length-map, length-take-le, take_more}
use Rattle.std.proofs.lemmas.List.Elements.{All-cons, All-nil}
use Rattle.geom.specs.Limit.{AreInLimit, InLimit}
use Rattle.geom.specs.declared.edge.Edge.{Edge}
use Rattle.geom.specs.declared.point.Pt.{Pt}
use Rattle.edge_lines.specs.Lines.{AreEdges, AreLinesRefused, IsAdded, IsFirstBad, IsLine, IsLineFault, IsPointBy, IsSaid, LiesBetween, words_of}
use Rattle.edge_lines.specs.declared.fault.LineFault.{LineFault}
use Rattle.edge_lines.specs.declared.fault.ReadFault.{ReadFault}
use Rattle.edge_lines.specs.declared.fault.ReadFault.TheVariants.{Line, Memory}

-- ---- one line more

one_blank : (lines : List (List ℕ)) (line : List ℕ) (edges : List Edge) → AreEdges lines edges → IsLine line (Ok None) → AreEdges (lines ++ line ∷ []) edges
one_blank [] line edges h said = inl (said, h)
one_blank (x ∷ xs) line edges (inl h) said = inl (h.0, one_blank xs line edges h.1 said)
one_blank (x ∷ xs) line edges (inr h) said =
    let (e, others, first, more, is) = h in
    inr (e, others, first, one_blank xs line others more said, is)

one_edge : (lines : List (List ℕ)) (line : List ℕ) (edges : List Edge) (f : Edge) → AreEdges lines edges → IsLine line (Ok (Some f)) → AreEdges (lines ++ line ∷ []) (edges ++ f ∷ [])
one_edge [] line edges f h said = inr (f, [], said, refl, ap (λ es. es ++ f ∷ []) h)
one_edge (x ∷ xs) line edges f (inl h) said = inl (h.0, one_edge xs line edges f h.1 said)
one_edge (x ∷ xs) line edges f (inr h) said =
    let (e, others, first, more, is) = h in
    inr (e, others ++ f ∷ [], first, one_edge xs line others f more said, ap (λ es. es ++ f ∷ []) is)

-- the lines as they are lent
abbrev pub read : List (Bor (List ℕ)) → List (List ℕ)
read lent = map (λ t. t.now) lent

line_at : (lent : List (Bor (List ℕ))) (i : ℕ) (d : Bor (List ℕ)) → i < length lent → slice_index_or (read lent) i [] ≡ (slice_index_or lent i d).now
line_at lent i d lt = get_or-map (λ (t : Bor (List ℕ)). t.now) lent i d [] lt

short : (lent : List (Bor (List ℕ))) (i : ℕ) → i < length lent → i < length (read lent)
short lent i lt = rw (length-map lent (λ (t : Bor (List ℕ)). t.now)) lt

front : (lent : List (Bor (List ℕ))) (i : ℕ) (d : Bor (List ℕ)) → i < length lent → take (i + 1) (read lent) ≡ take i (read lent) ++ (slice_index_or lent i d).now ∷ []
front lent i d lt = take_more (read lent) i [] (short lent i lt) ∙ ap (λ l. take i (read lent) ++ l ∷ []) (line_at lent i d lt)

added : (lines : List (List ℕ)) (line : List ℕ) (old new : List Edge) → AreEdges lines old → IsAdded line old new → AreEdges (lines ++ line ∷ []) new
added lines line old new h (inl blank) = subst (AreEdges (lines ++ line ∷ [])) (sym blank.1) (one_blank lines line old h blank.0)
added lines line old new h (inr more) =
    let (e, said, is) = more in
    subst (AreEdges (lines ++ line ∷ [])) (sym is) (one_edge lines line old e h said)

pub next_line : (lent : List (Bor (List ℕ))) (i : ℕ) (d : Bor (List ℕ)) (old new : List Edge) → i < length lent → AreEdges (take i (read lent)) old → IsAdded (slice_index_or lent i d).now old new
    → AreEdges (take (i + 1) (read lent)) new
next_line lent i d old new lt h more = subst (λ ls. AreEdges ls new) (sym (front lent i d lt)) (added (take i (read lent)) (slice_index_or lent i d).now old new h more)

first_bad : (lent : List (Bor (List ℕ))) (i : ℕ) (d : Bor (List ℕ)) (edges : List Edge) (fault : LineFault) → i < length lent → AreEdges (take i (read lent)) edges → IsLine (slice_index_or lent i d).now (Err fault)
    → IsFirstBad (read lent) (i + 1) fault
first_bad lent i d edges fault lt h said = record {
  before = take i (read lent);
  line = (slice_index_or lent i d).now;
  after = drop (suc i) (read lent);
  parted = split_at (read lent) i [] (short lent i lt) ∙ ap (λ l. take i (read lent) ++ l ∷ drop (suc i) (read lent)) (line_at lent i d lt);
  number_is = ap (λ n. n + 1) (sym (length-take-le i (read lent) (let lt2 = short lent i lt in omega (arith, lt2))));
  edges = edges;
  good = h;
  bad = said;
}

pub bad_line : (lent : List (Bor (List ℕ))) (i : ℕ) (d : Bor (List ℕ)) (edges : List Edge) (fault : ReadFault) → i < length lent → AreEdges (take i (read lent)) edges → IsLineFault (i + 1) (slice_index_or lent i d).now fault
    → AreLinesRefused (read lent) fault
bad_line lent i d edges (Line n fault) lt h why = subst (λ (m : ℕ). IsFirstBad (read lent) m fault) (sym why.0) (first_bad lent i d edges fault lt h why.1)
bad_line lent i d edges Memory lt h why = tt

-- ---- within the limit

in_limit : (a b : List ℕ) (p : Pt) → IsPointBy a b (Ok p) → InLimit p
in_limit a b p h = record { x_in = h.0.2; y_in = h.1.2 }

between : (p q : Pt) (e : Edge) → InLimit p → InLimit q → LiesBetween p q e → AreInLimit e.p e.q
between p q e p_in q_in (inl h) = record { a_in = subst InLimit (sym h.0) p_in; b_in = subst InLimit (sym h.1) q_in }
between p q e p_in q_in (inr h) = record { a_in = subst InLimit (sym h.0) q_in; b_in = subst InLimit (sym h.1) p_in }

said_in_limit : (words : List (List ℕ)) (e : Edge) → IsSaid words (Ok (Some e)) → AreInLimit e.p e.q
said_in_limit [] e h = absurd (cc)
said_in_limit (a ∷ []) e h = absurd (cc)
said_in_limit (a ∷ b ∷ []) e h = absurd (cc)
said_in_limit (a ∷ b ∷ c ∷ []) e h = absurd (cc)
said_in_limit (a ∷ b ∷ c ∷ d ∷ more) e h =
    let (p, q, p_is, q_is, lies) = h in
    between p q e (in_limit a b p p_is) (in_limit c d q q_is) lies

pub are_in_limit : (lines : List (List ℕ)) (edges : List Edge) → AreEdges lines edges → All (λ e. AreInLimit e.p e.q) edges
are_in_limit [] edges h = subst (All (λ (e : Edge). AreInLimit e.p e.q)) (sym h) (All-nil (λ (e : Edge). AreInLimit e.p e.q))
are_in_limit (x ∷ xs) edges (inl h) = are_in_limit xs edges h.1
are_in_limit (x ∷ xs) edges (inr h) =
    let (e, others, first, more, is) = h in
    subst (All (λ (f : Edge). AreInLimit f.p f.q)) (sym is) (All-cons (λ (f : Edge). AreInLimit f.p f.q) e others (said_in_limit (words_of x) e first) (are_in_limit xs others more))

-- and so are those that a call answers
pub limits_of : {V : Type 0} (F : ReadFault → Type 0) (items : V → List Edge) (lines : List (List ℕ)) (r : Result V ReadFault) → MatchResult r (λ v. AreEdges lines (items v)) F
    → IfOk r (λ v. All (λ (e : Edge). AreInLimit e.p e.q) (items v))
limits_of F items lines (Ok v) h = are_in_limit lines (items v) h
limits_of F items lines (Err f) h = tt
