pub mod ForeignPrefix
