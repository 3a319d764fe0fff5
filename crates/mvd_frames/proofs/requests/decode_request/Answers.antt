use Rattle.std.proofs.Common.{arith}
use Rattle.mvd_frames.proofs.RequestLaws.{request_found, request_only}
use Rattle.mvd_frames.proofs.requests.decode_request.Goals as goal

pub returns-clause-found : goal.returns-clause-found
returns-clause-found c = request_found c.args.kind c.args.payload.now (λ i. omega (arith, c.type_inv.payload i)) c.request_at.result c.request_at.ensures.exact

pub returns-clause-only : goal.returns-clause-only
returns-clause-only c = request_only c.args.kind c.args.payload.now c.request_at.result c.request_at.ensures.exact
