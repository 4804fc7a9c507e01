pub mod Drive
