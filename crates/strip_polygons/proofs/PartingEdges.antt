-- Which edges go over a border of a range of strips, and which begin there.
use Rattle.std.proofs.Common.{◌≡◌, ◌⊎◌, inl, inr, ℕ, ◌<◌, ◌≤◌, leb, ltb, true, List, sym, subst, ⊎_elim, arith}
use Rattle.std.specs.Prelude.{◌↔◌, ℤ}
use Rattle.std.proofs.lemmas.Bool.{le-leb, leb-true}
use Rattle.std.proofs.lemmas.Bool.Decides.{Decides-ltb}
use Rattle.geom.specs.declared.directed.DirectedEdge.{DirectedEdge}
use Rattle.geom.specs.declared.edge.Edge.{Edge}
use Rattle.geom.specs.Directed.{RunsAlong}
use Rattle.geom.proofs.Edges.{one_run}
use Rattle.parts_law.specs.Ties.{BeginsFrom, GoesOver}
use Rattle.strips_law.specs.Strips.{strip_at}

-- the edge between the ends of a directed edge runs along it
pub runs_between : (d : DirectedEdge) (e : Edge) → ((e.p ≡ d.from) × (e.q ≡ d.to)) ⊎ ((e.p ≡ d.to) × (e.q ≡ d.from)) → RunsAlong d e
runs_between d e (inl h) = inl (λ i. record { from = sym h.0 i; to = sym h.1 i })
runs_between d e (inr h) = inr (λ i. record { from = sym h.1 i; to = sym h.0 i })

module _ (cuts : List ℤ) (from : ℕ) (d : DirectedEdge) (e : Edge) (runs : RunsAlong d e) (s : ℕ) (first : s ≡ strip_at cuts e.p) where
  pub begins_told : (leb from s ≡ true) ↔ BeginsFrom cuts from d
  begins_told = (
    λ h. record { edge = e; runs = runs; begins = subst (λ (t : ℕ). from ≤ t) first (leb-true from s h) },
    λ b. le-leb from s (subst (λ (t : ℕ). from ≤ t) (sym first) (subst (λ (f : Edge). from ≤ strip_at cuts f.p) (one_run d b.edge e b.runs runs)
        b.begins)),
  )

  -- it comes from before the strips, or is as its other end is
  module _ (past : ℕ) where
    pub over_first : s < from → (ltb s from ≡ true) ↔ GoesOver cuts from past d
    over_first h = (λ k. record { edge = e; runs = runs; over = inl (subst (λ (t : ℕ). t < from) first h) }, λ g. (Decides-ltb s from).1 h)

    pub over_second : (t : ℕ) → t ≡ strip_at cuts e.q → from ≤ s → (leb past t ≡ true) ↔ GoesOver cuts from past d
    over_second t second h = (
      λ k. record { edge = e; runs = runs; over = inr (subst (λ (u : ℕ). past ≤ u) second (leb-true past t k)) },
      λ g. le-leb past t (subst (λ (u : ℕ). past ≤ u) (sym second) (⊎_elim (λ l. absurd (not_first l)) (λ l. l) (there g))),
    )
      where
        there : GoesOver cuts from past d → (strip_at cuts e.p < from) ⊎ (past ≤ strip_at cuts e.q)
        there g = subst (λ (f : Edge). (strip_at cuts f.p < from) ⊎ (past ≤ strip_at cuts f.q)) (one_run d g.edge e g.runs runs) g.over

        not_first : strip_at cuts e.p < from → ⊥
        not_first l = omega (arith, first, h, l)
