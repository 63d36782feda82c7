-- What a parser has still to read
use Rattle.std.specs.Prelude.{ℕ, length}
use Rattle.slices.specs.Tokens.{rest_of}
use Rattle.c_text.specs.declared.parser.Parser.{Parser}
use Rattle.c_text.specs.Stream.{Stream, stream_behind}

abbrev pub stream : Parser → Stream
stream p = stream_behind p.ahead (rest_of p.toks) p.end

-- how many tokens are left
abbrev pub left : Parser → ℕ
left p = length (stream p).tokens
