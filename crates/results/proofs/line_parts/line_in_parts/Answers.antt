use Rattle.std.proofs.Common.{[], ◌≡◌, ◌<◌, ◌++◌, ◌∙◌, ℕ, List, ap, arith, length, sym}
use Rattle.std.proofs.lemmas.Result.{IfOk-weaker}
use Rattle.results.specs.LineParts.{IsLine, line_text}
use Rattle.results.proofs.LineParts.{no_line, whole_line}
use Rattle.results.proofs.line_parts.line_in_parts.Goals as goal

pub returns : goal.returns
returns g c =
    let rings = c.args.rings.now in
    let parts = c.in_ok-others.others in
    let end = c.in_ok-end.field-0 in
    let some : 0 < length rings = omega (arith, c.count.ensures, c.if-count-eq0.false) in
    IfOk-weaker c.joined-2.result (λ text. text ≡ c.in_ok-joined.field-0 ++ end) (λ text. IsLine rings text)
    (λ text e. whole_line rings c.in_ok-beginning.beginning parts end text some c.in_ok-beginning.ensures.text c.in_ok-beginning.ensures.readable
    c.in_ok-others.ensures c.in_ok-end.ensures (e ∙ ap (λ (t : List ℕ). t ++ end) c.in_ok-joined.ensures))
    c.joined-2.ensures

pub returns-then-count-eq0 : goal.returns-then-count-eq0
returns-then-count-eq0 g c =
    IfOk-weaker c.line_of_none.result (λ text. text ≡ line_text []) (λ text. IsLine c.args.rings.now text)
    (λ text e. no_line c.args.rings.now text (sym c.count.ensures ∙ c.if-count-eq0.true) e) c.line_of_none.ensures
