use Rattle.http_request.proofs.RouteLemmas.{routed, route_told, name_there, nothing_there}
use Rattle.http_request.proofs.routes.name_and_parts.Goals as goal

pub returns-in-Some : goal.returns-in-Some
returns-in-Some c =
    route_told c.args.path.now _ _ _ _ _ c.in-Some.name.now c.get-in-Some.result
    (routed c.args.path.now (λ i. (c.type_inv.path i).fits) c.utf8.path) (rw c.requires at c.in-Ok.ensures.found)
    c.in-Ok.ensures.path c.in-Some.ensures c.get-in-Some.ensures

pub returns-in-None : goal.returns-in-None
returns-in-None c =
    absurd (name_there c.args.path.now _ _ _ _ _
    (routed c.args.path.now (λ i. (c.type_inv.path i).fits) c.utf8.path) (rw c.requires at c.in-Ok.ensures.found)
    c.in-Ok.ensures.path c.in-None.ensures)

pub returns-in-Err : goal.returns-in-Err
returns-in-Err c =
    nothing_there c.args.path.now (routed c.args.path.now (λ i. (c.type_inv.path i).fits) c.utf8.path)
    (rw c.requires at c.in-Err.ensures.missing)
