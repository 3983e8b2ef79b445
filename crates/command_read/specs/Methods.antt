-- The methods (RFC 9110, section 9.1: their names tell capitals from small letters).
use Rattle.std.specs.Prelude.{ℕ, if◌then◌else◌, List, Bool, true, false, Option, Some, None, codes}
use Rattle.std.specs.Str.{bytes_eq}
use Rattle.command_read.specs.declared.methods.Method.{Method}
use Rattle.command_read.specs.declared.methods.Method.TheVariants as method
use Rattle.http_wire.specs.declared.answer.Allow.{Allow}
use Rattle.http_wire.specs.declared.answer.Allow.TheVariants as allow

abbrev pub method_of : List ℕ → Option Method
method_of name =
    if bytes_eq name (codes "GET") then Some method.Get
    else if bytes_eq name (codes "POST") then Some method.Post
    else None

-- the method is one of these
abbrev pub takes : Allow → Method → Bool
takes allow.None m = false
takes allow.Post method.Get = false
takes allow.Post method.Post = true
takes allow.GetPost m = true
