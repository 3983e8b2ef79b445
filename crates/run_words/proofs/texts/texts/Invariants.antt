use Rattle.std.proofs.Common.{◌≡◌, map, take, true}
use Rattle.std.specs.List.{list_all}
use Rattle.std.specs.Str.{is_utf8}
use Rattle.run_words.proofs.texts.texts.Given as goal

-- the words so far are texts
abbrev pub invariant-loop-word : goal.invariant-loop-word
invariant-loop-word l = (map (λ s. s.now) l.texts.items ≡ take l.word-index l.words) × (list_all is_utf8 (take l.word-index l.words) ≡ true)
