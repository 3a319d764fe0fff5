use Rattle.std.proofs.Common.{◌≡◌, ◌∙◌, ◌+◌, ◌-◌, ◌^◌, ◌∷◌, ◌++◌, [], ℕ, List, ap, min, slice_index_or, refl, arith}
use Rattle.mvd_wire.specs.declared.request.Request.{Request}
use Rattle.mvd_host.specs.Weights.{weight_of}
use Rattle.mvd_host.proofs.Weights.{weighed_more}
use Rattle.mvd_host.proofs.front.Front.take_one.Goals as goal

pub returns-clause-takes : goal.returns-clause-takes
returns-clause-takes c _ =
    let states = c.args.site.now.states in
    let request = c.in-Some-pop_front.request in
    let next : c.args.asking.now.requests.items ≡ request ∷ c.pop_front.new.self.items = c.in-Some-pop_front.ensures.items in
    let front : c.in-Some.request.now ≡ request = c.in-Some.ensures.lookup ∙ ap (λ (l : List Request). slice_index_or l 0 c.in-Some.request.now) next in
    let same = c.make_room.ensures.same in
    let one : c.weight-weighs.result ≡ min (weight_of states request) (2 ^ 64 - 1) = c.weight-weighs.ensures ∙ ap (λ (r : Request). min (weight_of states r) (2 ^ 64 - 1)) front in
    let sum : c.saturating_add-self.result ≡ min (c.args.self.now.weighed + c.weight-weighs.result) (2 ^ 64 - 1) = c.saturating_add-self.ensures ∙ ap (λ n. min (n + c.weight-weighs.result) (2 ^ 64 - 1)) same.weighed in
    let requests : c.push_reserved-2.new.self.items ≡ c.args.self.now.requests.items ++ request ∷ [] = c.push_reserved-2.ensures.items ∙ ap (λ l. l ++ request ∷ []) same.requests in
    record {
      request = request;
      next = next;
      client = refl;
      takes = record {
        clients = c.push_reserved.ensures.items ∙ ap (λ l. l ++ c.args.asking.now.client ∷ []) same.clients;
        requests = requests;
        weighed = λ so_far. weighed_more states c.args.self.now.requests.items c.push_reserved-2.new.self.items request c.args.self.now.weighed c.weight-weighs.result c.saturating_add-self.result so_far one sum requests;
        heavy = λ much. omega (arith, much, sum);
        held = same.held;
        done = c.and-self.ensures ∙ ap (λ (l : List (ℕ × Request)). l ++ (c.args.asking.now.client, request) ∷ []) same.done;
      };
      shut = same.shut;
    }
