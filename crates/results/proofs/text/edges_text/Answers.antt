use Rattle.std.proofs.Common.{◌≡◌, ℕ, ◌<◌, ◌+◌, ◌∙◌, List, [], ◌∷◌, ◌++◌, ap, get_or, length, sym, take}
use Rattle.std.proofs.lemmas.List.{flat_map_more, take_all, take_more}
use Rattle.geom.specs.declared.edge.Counted.{Counted}
use Rattle.results.specs.Texts.{edge_line, edges_text_of}
use Rattle.results.proofs.text.edges_text.Goals as goal

one_line : (edges : List Counted) (i : ℕ) (x : Counted) → i < length edges → x ≡ get_or edges i x → edges_text_of (take (i + 1) edges) ≡ edges_text_of (take i edges) ++ edge_line x
one_line edges i x h is = ap edges_text_of (take_more edges i x h ∙ ap (λ (t : Counted). take i edges ++ t ∷ []) (sym is)) ∙ sym (flat_map_more edge_line [] (take i edges) x)

pub loop-counted-preserved : goal.loop-counted-preserved
loop-counted-preserved g c =
    let x = c.counted-item.result in
    c.in_ok-push_edge.ensures ∙ ap (λ (t : List ℕ). t ++ edge_line x) c.loop-counted.invariant ∙ sym (one_line c.args.edges.now c.loop-counted.counted-index x c.loop-counted-test.true c.counted-item.is)

pub returns : goal.returns
returns g c = c.loop-counted.invariant ∙ ap edges_text_of (take_all c.loop-counted.counted-index c.args.edges.now c.loop-counted-test.false)
