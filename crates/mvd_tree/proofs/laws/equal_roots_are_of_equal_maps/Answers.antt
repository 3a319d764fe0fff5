use Rattle.std.proofs.Common.{[], refl}
use Rattle.std.specs.FinMap.{same_map}
use Rattle.mvd_keys.proofs.KeyOrder.{key_total, key_antisymmetric}
use Rattle.mvd_tree.proofs.Apart.{same_states_under}
use Rattle.mvd_tree.proofs.laws.equal_roots_are_of_equal_maps.Goals as goal

pub returns : goal.returns
returns g c = λ spelled a b apart one_text e. same_map key_total key_antisymmetric a b (λ key. same_states_under spelled a b apart one_text 3 [] refl e key refl)
