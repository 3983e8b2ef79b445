use Rattle.std.proofs.Common.{◌≡◌, map, take}
use Rattle.json_out.specs.Strings.{string_text}
use Rattle.json_out.specs.Inside.{in_array}
use Rattle.json_out.proofs.writer.Writer.texts.Given as goal

-- the elements so far were written
abbrev pub invariant-loop-text : goal.invariant-loop-text
invariant-loop-text l = l.self ≡ in_array l.fn.self (map string_text (take l.text-index l.texts))
