use Rattle.std.proofs.Math.Logic.{∥∥₁_map}
use Rattle.linking.proofs.CopyLinks.{copies_rounded}
use Rattle.linking.proofs.made.gather_made.Goals as goal

pub counts_in_order-requires : goal.counts_in_order-requires
counts_in_order-requires g c = record { short = c.in_ok-found.ensures.short }

pub rounded_of_copies-requires : goal.rounded_of_copies-requires
rounded_of_copies-requires g c =
    let segments = c.args.segments.now in
    let links = c.in_ok-found.found.links.items.items in
    let edges = c.in_ok-edges.edges.items in
    ∥∥₁_map c.in_ok-found.ensures.links (λ r. copies_rounded segments c.args.copies.now links edges r c.in_ok-edges.ensures)

pub returns-clause-rounded : goal.returns-clause-rounded
returns-clause-rounded g c =
    let segments = c.args.segments.now in
    let links = c.in_ok-found.found.links.items.items in
    let edges = c.in_ok-edges.edges.items in
    rw c.rounded_of_copies.ensures.edges (∥∥₁_map c.in_ok-found.ensures.links (λ r. copies_rounded segments c.args.copies.now links edges r c.in_ok-edges.ensures))
