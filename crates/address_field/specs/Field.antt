-- The frame that an address field and a content make (document 01, rules 2 to 4), where so many octets are there.
use Rattle.std.specs.Prelude.{ℕ, cond, List, length}
use Rattle.content.specs.declared.FrameContent.{FrameContent}
use Rattle.frame.specs.Frame.{default_frame}
use Rattle.frame.specs.declared.Ax25Frame.{Ax25Frame}
use Rattle.decode.specs.Read.{frame_at}
use Rattle.decode.specs.Outline.{has_groups}

-- the frame whose groups are the first octets, with n repeaters and this content; the default frame where they are not there
unfoldable pub framed : List ℕ → ℕ → FrameContent → Ax25Frame
framed s n k = cond (has_groups (length s) n) (frame_at s 0 n k) default_frame
