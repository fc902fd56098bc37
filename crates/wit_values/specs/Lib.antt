pub mod ReleaseOrder
pub mod ReleaseParts
pub mod ReleaseText
pub mod SpanOrder
