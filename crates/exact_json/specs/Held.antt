-- What stands on the stacks of a reading.
use Rattle.std.specs.Prelude.{List}
use Rattle.exact_json.specs.declared.stacks.Stacks.{Stacks}
use Rattle.exact_json.specs.declared.value.Value.{Value}
use Rattle.exact_json.specs.declared.value.Member.{Member}

abbrev pub held : Stacks → List Value × List Member
held stacks = (stacks.values.items, stacks.members.items)
