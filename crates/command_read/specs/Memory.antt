-- What is read of a message, where memory may run out.
use Rattle.std.specs.Prelude.{Result, Ok, Err}
use Rattle.command_read.specs.declared.fault.CommandFault.{CommandFault}
use Rattle.command_read.specs.declared.fault.CommandFault.TheVariants as fault
use Rattle.http_wire.specs.declared.answer.Answer.{Answer}
use Rattle.plain_exchange.specs.declared.commands.Command.{Command}

-- a command or a refusal of which this holds, or want of memory
abbrev pub UnlessMemory : (Result Command Answer → Type 0) → Result Command CommandFault → Type 0
UnlessMemory holds (Ok c) = holds (Ok c)
UnlessMemory holds (Err (fault.Refused refusal)) = holds (Err refusal)
UnlessMemory holds (Err fault.Memory) = Unit {0}

-- this holds of the refusal, if it is one
abbrev pub IfRefused : (Answer → Type 0) → CommandFault → Type 0
IfRefused holds (fault.Refused refusal) = holds refusal
IfRefused holds fault.Memory = Unit {0}
